use Rattle.std.proofs.Common.{rules}
use Rattle.loom_engine.proofs.rt.path.checkpoint.value.is_too_many.Goals as goal

pub returns : goal.returns
returns c = search rules
