use Rattle.loom_engine.proofs.Runs.Ordering.{orders_law}
use Rattle.loom_engine.proofs.laws.orders.orders_of_kept_stores_differ.Goals as goal

pub returns : goal.returns
returns g c = orders_law
