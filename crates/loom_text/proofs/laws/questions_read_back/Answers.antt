use Rattle.loom_text.proofs.QuestionsAgain.{questions_read_back}
use Rattle.loom_text.proofs.laws.questions_read_back.Goals as goal

pub returns : goal.returns
returns c = questions_read_back
