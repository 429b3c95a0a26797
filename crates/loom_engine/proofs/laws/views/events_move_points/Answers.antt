use Rattle.loom_engine.proofs.Runs.Viewing.{moves_law}
use Rattle.loom_engine.proofs.laws.views.events_move_points.Goals as goal

pub returns : goal.returns
returns g c = moves_law
