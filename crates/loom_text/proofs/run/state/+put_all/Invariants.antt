use Rattle.std.proofs.Common.{length}
use Rattle.loom_text.proofs.run.state.+put_all.Given as goal

abbrev pub decreases-put_all : goal.decreases-put_all
decreases-put_all l = length l.numbers.now
