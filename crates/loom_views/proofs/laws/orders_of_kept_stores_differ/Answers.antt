use Rattle.loom_views.proofs.Atomic.Orders.Differ.{apart_law}
use Rattle.loom_views.proofs.laws.orders_of_kept_stores_differ.Goals as goal

pub returns : goal.returns
returns c = apart_law
