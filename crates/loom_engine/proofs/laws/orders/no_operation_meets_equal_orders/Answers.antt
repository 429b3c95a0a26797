use Rattle.loom_engine.proofs.Runs.Ordering.{unequal_law}
use Rattle.loom_engine.proofs.laws.orders.no_operation_meets_equal_orders.Goals as goal

pub returns : goal.returns
returns g c = unequal_law
