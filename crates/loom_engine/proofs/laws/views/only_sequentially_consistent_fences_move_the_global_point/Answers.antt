use Rattle.loom_engine.proofs.Runs.Viewing.{global_point_law}
use Rattle.loom_engine.proofs.laws.views.only_sequentially_consistent_fences_move_the_global_point.Goals as goal

pub returns : goal.returns
returns g c = global_point_law
