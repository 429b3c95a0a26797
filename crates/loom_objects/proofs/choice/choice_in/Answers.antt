use Rattle.std.proofs.Common.{refl}
use Rattle.loom_objects.proofs.choice.choice_in.Goals as goal

pub returns-in-116 : goal.returns-in-116
returns-in-116 c = rw (c.in-116.is, c.if-sign-eq45.true) refl
