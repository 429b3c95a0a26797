use Rattle.loom_views.proofs.Atomic.Orders.Differ.{never_equal_law}
use Rattle.loom_views.proofs.laws.choices_never_meet_equal_orders.Goals as goal

pub returns : goal.returns
returns c = never_equal_law
