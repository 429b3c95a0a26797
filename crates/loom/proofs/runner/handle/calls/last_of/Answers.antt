use Rattle.std.proofs.Common.{refl}
use Rattle.loom.proofs.runner.handle.calls.last_of.Goals as goal

pub returns-in-Ok : goal.returns-in-Ok
returns-in-Ok g c = rw c.in-Ok.is refl
