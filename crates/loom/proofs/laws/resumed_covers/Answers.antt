use Rattle.loom.proofs.ModelLemmas.CoverRounds.{goes_on_law}
use Rattle.loom.proofs.laws.resumed_covers.Goals as goal

pub returns : goal.returns
returns g c = goes_on_law
