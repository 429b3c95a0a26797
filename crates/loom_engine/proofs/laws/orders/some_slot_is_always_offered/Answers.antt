use Rattle.loom_engine.proofs.Runs.Updating.{slot_law}
use Rattle.loom_engine.proofs.laws.orders.some_slot_is_always_offered.Goals as goal

pub returns : goal.returns
returns g c = slot_law
