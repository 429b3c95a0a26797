use Rattle.loom.proofs.ModelLemmas.Paths.{together_law}
use Rattle.loom.proofs.laws.resumed_checks.Goals as goal

pub returns : goal.returns
returns g c = together_law
