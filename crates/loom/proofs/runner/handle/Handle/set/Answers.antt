use Rattle.std.proofs.Common.{rules}
use Rattle.loom.proofs.runner.handle.Handle.set.Goals as goal

pub returns-clause-tells : goal.returns-clause-tells
returns-clause-tells g c = (c.in_ok-ask.field-0.0, search rules)
