use Rattle.loom_views.proofs.Atomic.Reaching.Ends.{end_law}
use Rattle.loom_views.proofs.laws.ends_may_pass_unreached.Goals as goal

pub returns : goal.returns
returns c = end_law
