use Rattle.std.proofs.Common.{rules}
use Rattle.loom_engine.proofs.rt.execution.may_end.Goals as goal

pub returns-then-not-all_ended : goal.returns-then-not-all_ended
returns-then-not-all_ended c = search rules
