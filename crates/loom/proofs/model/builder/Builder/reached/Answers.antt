use Rattle.std.proofs.Common.{arith, rules}
use Rattle.loom.proofs.model.builder.Builder.reached.Goals as goal

pub returns-in-Some-clause-reached : goal.returns-in-Some-clause-reached
returns-in-Some-clause-reached g c = (search rules, grind arith)
