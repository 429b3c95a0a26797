use Rattle.loom.proofs.ModelLemmas.Bounds.{none_within}
use Rattle.loom.proofs.model.rising.none_within_fails.Goals as goal

pub returns : goal.returns
returns g c = none_within
