use Rattle.std.proofs.Common.{arith}
use Rattle.std.proofs.lemmas.Grind.{common_steps}
use Rattle.loom_engine.proofs.rt.path.word.meets.Goals as goal

pub returns-then-is_same_thread : goal.returns-then-is_same_thread
returns-then-is_same_thread c = grind (arith, common_steps)
