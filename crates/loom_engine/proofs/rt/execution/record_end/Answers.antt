use Rattle.std.proofs.Common.{rules}
use Rattle.loom_engine.proofs.rt.execution.record_end.Goals as goal

pub returns-in-Err : goal.returns-in-Err
returns-in-Err g c = search rules
