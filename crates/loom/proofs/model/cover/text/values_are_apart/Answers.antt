use Rattle.loom.proofs.ModelLemmas.CoverTexts.{apart_law}
use Rattle.loom.proofs.model.cover.text.values_are_apart.Goals as goal

pub returns : goal.returns
returns c = apart_law
