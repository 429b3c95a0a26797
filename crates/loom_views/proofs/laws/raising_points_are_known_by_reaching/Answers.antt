use Rattle.loom_views.proofs.Atomic.Reaching.Raising.{staying_law}
use Rattle.loom_views.proofs.laws.raising_points_are_known_by_reaching.Goals as goal

pub returns : goal.returns
returns c = staying_law
