use Rattle.loom_views.proofs.Atomic.Reaching.Order.{beside_law}
use Rattle.loom_views.proofs.laws.unsynchronized_accesses_race_where_unreached.Goals as goal

pub returns : goal.returns
returns c = beside_law
