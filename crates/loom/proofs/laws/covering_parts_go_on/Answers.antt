use Rattle.loom.proofs.ModelLemmas.CoverParts.{forget_law}
use Rattle.loom.proofs.laws.covering_parts_go_on.Goals as goal

pub returns : goal.returns
returns g c = forget_law
