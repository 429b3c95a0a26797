use Rattle.std.proofs.Common.{rules}
use Rattle.loom_engine.proofs.rt.path.Path.is_full.Goals as goal

pub returns : goal.returns
returns c = search rules
