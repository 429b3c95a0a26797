use Rattle.std.proofs.Common.{arith}
use Rattle.std.proofs.lemmas.Grind.{common_steps}
use Rattle.loom_views.proofs.Atomic.Reads.{slot-stays}
use Rattle.loom_views.proofs.rt.atomic.State.read.Goals as goal

pub returns-clause-sync : goal.returns-clause-sync
returns-clause-sync c = grind (arith, common_steps, slot-stays)
