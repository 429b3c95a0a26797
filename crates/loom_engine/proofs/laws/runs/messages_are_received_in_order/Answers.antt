use Rattle.loom_engine.proofs.Runs.InOrder.{in_order}
use Rattle.loom_engine.proofs.laws.runs.messages_are_received_in_order.Goals as goal

pub returns : goal.returns
returns g c = in_order
