use Rattle.loom.proofs.ModelLemmas.CoverParts.{begin_law}
use Rattle.loom.proofs.laws.covering_parts_begin.Goals as goal

pub returns : goal.returns
returns g c = begin_law
