use Rattle.loom_views.proofs.Atomic.Orders.Differ.{choosing_law}
use Rattle.loom_views.proofs.laws.some_slot_is_always_offered.Goals as goal

pub returns : goal.returns
returns c = choosing_law
