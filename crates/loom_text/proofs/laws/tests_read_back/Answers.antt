use Rattle.loom_text.proofs.WholeAgain.{tests_read_back}
use Rattle.loom_text.proofs.laws.tests_read_back.Goals as goal

pub returns : goal.returns
returns c = tests_read_back
