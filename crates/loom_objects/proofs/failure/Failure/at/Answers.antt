use Rattle.std.proofs.Common.{refl}
use Rattle.loom_objects.proofs.failure.Failure.at.Goals as goal

pub returns : goal.returns
returns c = refl
