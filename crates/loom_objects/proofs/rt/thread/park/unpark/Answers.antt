use Rattle.std.proofs.Common.{rules}
use Rattle.loom_objects.proofs.rt.thread.park.unpark.Goals as goal

pub returns : goal.returns
returns g c = search rules

pub returns-then-thread-active : goal.returns-then-thread-active
returns-then-thread-active g c = search rules
