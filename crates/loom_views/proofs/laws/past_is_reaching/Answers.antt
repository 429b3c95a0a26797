use Rattle.loom_views.proofs.Atomic.Sweeping.{past-is}
use Rattle.loom_views.proofs.laws.past_is_reaching.Goals as goal

pub returns : goal.returns
returns c = past-is
