use Rattle.std.proofs.Common.{arith, rules}
use Rattle.std.proofs.lemmas.Grind.{common_steps}
use Rattle.loom_text.specs.Spelling.{word_of}
use Rattle.loom_text.proofs.read.word.word_of.Goals as goal

pub returns : goal.returns
unfolding word_of
returns c = first_of (search rules, grind (arith, common_steps))
