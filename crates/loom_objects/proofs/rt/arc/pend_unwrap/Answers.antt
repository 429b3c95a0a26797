use Rattle.std.proofs.Common.{refl}
use Rattle.loom_objects.proofs.rt.arc.pend_unwrap.Goals as goal

pub returns-clause-pends : goal.returns-clause-pends
returns-clause-pends g c = c.pend.ensures

pub returns-clause-branch : goal.returns-clause-branch
returns-clause-branch g c = refl
