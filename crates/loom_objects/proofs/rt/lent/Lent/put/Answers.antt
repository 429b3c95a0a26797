use Rattle.std.proofs.Common.{rules}
use Rattle.loom_objects.proofs.rt.lent.Lent.put.Goals as goal

pub returns-clause-result : goal.returns-clause-result
returns-clause-result g c = search rules
