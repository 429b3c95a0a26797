use Rattle.std.proofs.Common.{rules}
use Rattle.loom_engine.proofs.rt.path.word.is_last.Goals as goal

pub returns : goal.returns
returns c = search rules
