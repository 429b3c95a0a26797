use Rattle.loom_views.proofs.Views.Views.{shows-old}
use Rattle.loom_views.proofs.laws.points_stay_shown.Goals as goal

pub returns : goal.returns
returns c = shows-old
