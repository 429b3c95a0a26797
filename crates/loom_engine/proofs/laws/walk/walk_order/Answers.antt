use Rattle.loom_engine.proofs.Walk.Order.{order_law}
use Rattle.loom_engine.proofs.laws.walk.walk_order.Goals as goal

pub returns : goal.returns
returns c = order_law
