use Rattle.loom_text.proofs.ExpressionsAgain.{expressions_read_back}
use Rattle.loom_text.proofs.laws.expressions_read_back.Goals as goal

pub returns : goal.returns
returns c = expressions_read_back
