use Rattle.loom_views.proofs.Views.Counted.{counted-is}
use Rattle.loom_views.proofs.laws.versions_count_raising_points.Goals as goal

pub returns : goal.returns
returns c = counted-is
