use Rattle.std.proofs.Common.{rules}
use Rattle.loom_engine.proofs.rt.path.making.is_below.Goals as goal

pub returns-in-Some : goal.returns-in-Some
returns-in-Some c = search rules
