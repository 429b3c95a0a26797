use Rattle.loom_views.proofs.Views.Views.{raising-inside}
use Rattle.loom_views.proofs.laws.view_is_reaching.Goals as goal

pub returns : goal.returns
returns c = raising-inside
