use Rattle.loom_views.proofs.Atomic.Reaching.Order.{adding_law}
use Rattle.loom_views.proofs.laws.moves_keep_points_and_records.Goals as goal

pub returns : goal.returns
returns c = adding_law
