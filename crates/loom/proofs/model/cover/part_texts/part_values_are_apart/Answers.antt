use Rattle.loom.proofs.ModelLemmas.CoverPartTexts.{parts_apart_law}
use Rattle.loom.proofs.model.cover.part_texts.part_values_are_apart.Goals as goal

pub returns : goal.returns
returns c = parts_apart_law
