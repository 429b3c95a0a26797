use Rattle.std.proofs.Common.{refl}
use Rattle.loom.proofs.model.limits.most_runs.Goals as goal

pub returns-in-Some : goal.returns-in-Some
returns-in-Some c = rw c.in-Some.is refl
