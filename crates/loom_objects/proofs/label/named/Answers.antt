use Rattle.std.proofs.Common.{refl}
use Rattle.loom_objects.proofs.label.named.Goals as goal

pub returns : goal.returns
returns c = rw c.location_in.ensures refl
