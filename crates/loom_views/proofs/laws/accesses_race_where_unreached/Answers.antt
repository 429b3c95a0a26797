use Rattle.loom_views.proofs.Atomic.Reaching.Missing.{unreached_law}
use Rattle.loom_views.proofs.laws.accesses_race_where_unreached.Goals as goal

pub returns : goal.returns
returns c = unreached_law
