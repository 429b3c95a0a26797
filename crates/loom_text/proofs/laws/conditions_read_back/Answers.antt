use Rattle.loom_text.proofs.ConditionsAgain.{conditions_read_back}
use Rattle.loom_text.proofs.laws.conditions_read_back.Goals as goal

pub returns : goal.returns
returns c = conditions_read_back
