use Rattle.std.proofs.Common.{refl}
use Rattle.loom_examples.proofs.measured.many.Goals as goal

pub returns : goal.returns
returns c = refl
