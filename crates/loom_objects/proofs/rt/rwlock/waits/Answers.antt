use Rattle.std.proofs.Common.{rules}
use Rattle.loom_objects.proofs.rt.rwlock.waits.Goals as goal

pub returns-in-Read : goal.returns-in-Read
returns-in-Read c = search rules

pub returns-in-TryRead : goal.returns-in-TryRead
returns-in-TryRead c = search rules
