use Rattle.loom_engine.proofs.Runs.Ordering.{readable_moves_law}
use Rattle.loom_engine.proofs.laws.orders.events_read_what_may_be_read.Goals as goal

pub returns : goal.returns
returns g c = readable_moves_law
