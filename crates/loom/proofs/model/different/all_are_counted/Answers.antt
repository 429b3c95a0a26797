use Rattle.loom.proofs.ModelLemmas.Noting.{all_different_law}
use Rattle.loom.proofs.model.different.all_are_counted.Goals as goal

pub returns : goal.returns
returns c = all_different_law
