use Rattle.loom_engine.proofs.Covering.Points.{points_law}
use Rattle.loom_engine.proofs.laws.cover.sight_of_points_tells_the_future.Goals as goal

pub returns : goal.returns
returns g c = points_law
