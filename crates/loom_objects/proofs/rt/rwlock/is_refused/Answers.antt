use Rattle.std.proofs.Common.{rules}
use Rattle.loom_objects.proofs.rt.rwlock.is_refused.Goals as goal

pub returns : goal.returns
returns g c = search rules
