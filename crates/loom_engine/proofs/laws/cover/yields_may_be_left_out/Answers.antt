use Rattle.loom_engine.proofs.Covering.Points.{yields_law}
use Rattle.loom_engine.proofs.laws.cover.yields_may_be_left_out.Goals as goal

pub returns : goal.returns
returns g c = yields_law
