use Rattle.loom_views.proofs.Atomic.Reaching.Beginning.{beginning_law}
use Rattle.loom_views.proofs.laws.accesses_begin_at_raising_points.Goals as goal

pub returns : goal.returns
returns c = beginning_law
