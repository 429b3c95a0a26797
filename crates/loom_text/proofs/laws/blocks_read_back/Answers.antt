use Rattle.loom_text.proofs.BlocksAgain.{blocks_read_back}
use Rattle.loom_text.proofs.laws.blocks_read_back.Goals as goal

pub returns : goal.returns
returns c = blocks_read_back
