use Rattle.std.proofs.Common.{arith, rules}
use Rattle.std.proofs.lemmas.Grind.{common_steps}
use Rattle.loom_text.specs.Spelling.{symbol_of}
use Rattle.loom_text.proofs.read.symbol.symbol_of.Goals as goal

pub returns : goal.returns
unfolding symbol_of
returns c = first_of (search rules, grind (arith, common_steps))
