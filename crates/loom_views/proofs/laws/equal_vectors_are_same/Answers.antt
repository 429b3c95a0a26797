use Rattle.loom_views.proofs.Views.VersionLists.{equal-same}
use Rattle.loom_views.proofs.laws.equal_vectors_are_same.Goals as goal

pub returns : goal.returns
returns c = equal-same
