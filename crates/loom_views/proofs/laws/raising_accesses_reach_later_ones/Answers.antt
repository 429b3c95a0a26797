use Rattle.loom_views.proofs.Atomic.Reaching.Order.{order_law}
use Rattle.loom_views.proofs.laws.raising_accesses_reach_later_ones.Goals as goal

pub returns : goal.returns
returns c = order_law
