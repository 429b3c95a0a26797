use Rattle.loom_views.proofs.Views.Views.{shows-inside}
use Rattle.loom_views.proofs.laws.vectors_compare_as_views.Goals as goal

pub returns : goal.returns
returns c = shows-inside
