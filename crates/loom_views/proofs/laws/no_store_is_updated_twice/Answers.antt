use Rattle.loom_views.proofs.Atomic.Orders.Once.{once_law}
use Rattle.loom_views.proofs.laws.no_store_is_updated_twice.Goals as goal

pub returns : goal.returns
returns c = once_law
