use Rattle.loom.proofs.ModelLemmas.Reading.{reads_back_law}
use Rattle.loom.proofs.choices.laws.reads_back.Goals as goal

pub returns : goal.returns
returns c = reads_back_law
