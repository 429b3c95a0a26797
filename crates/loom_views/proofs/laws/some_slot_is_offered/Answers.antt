use Rattle.loom_views.proofs.Atomic.TableLaws.Offered.{some_slot_is_offered_law}
use Rattle.loom_views.proofs.laws.some_slot_is_offered.Goals as goal

pub returns : goal.returns
returns c = some_slot_is_offered_law
