use Rattle.loom.proofs.ModelLemmas.BoundExample.{example_law}
use Rattle.loom.proofs.laws.preemptions.example_bounds.Goals as goal

pub returns : goal.returns
returns c = example_law
