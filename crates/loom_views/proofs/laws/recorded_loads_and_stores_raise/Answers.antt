use Rattle.loom_views.proofs.Atomic.Reaching.Order.{recorded_law}
use Rattle.loom_views.proofs.laws.recorded_loads_and_stores_raise.Goals as goal

pub returns : goal.returns
returns c = recorded_law
