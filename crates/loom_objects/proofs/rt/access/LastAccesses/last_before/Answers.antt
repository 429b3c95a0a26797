use Rattle.std.proofs.Common.{refl}
use Rattle.loom_objects.proofs.rt.access.LastAccesses.last_before.Goals as goal

pub returns-in-Read : goal.returns-in-Read
returns-in-Read c = rw c.in-Read.is refl
