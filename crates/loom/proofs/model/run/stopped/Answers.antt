use Rattle.std.proofs.Common.{refl}
use Rattle.loom.proofs.model.run.stopped.Goals as goal

pub returns-in-Failure-clause-ends : goal.returns-in-Failure-clause-ends
returns-in-Failure-clause-ends g c = rw (c.in-Failure.is, c.at.ensures) refl

pub returns-in-Failure-clause-located : goal.returns-in-Failure-clause-located
returns-in-Failure-clause-located g c = rw c.at.ensures c.location.ensures
