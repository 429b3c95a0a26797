use Rattle.loom_views.proofs.Atomic.TableLaws.Marked.{moves_as_acq_rel_law}
use Rattle.loom_views.proofs.laws.sequentially_consistent_accesses_move_as_acq_rel.Goals as goal

pub returns : goal.returns
returns c = moves_as_acq_rel_law
