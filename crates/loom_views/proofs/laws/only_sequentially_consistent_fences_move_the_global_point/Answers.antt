use Rattle.loom_views.proofs.Atomic.TableLaws.Global.{global_stays_law}
use Rattle.loom_views.proofs.laws.only_sequentially_consistent_fences_move_the_global_point.Goals as goal

pub returns : goal.returns
returns c = global_stays_law
