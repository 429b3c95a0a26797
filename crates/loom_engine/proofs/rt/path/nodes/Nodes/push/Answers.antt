use Rattle.std.proofs.Common.{rules}
use Rattle.loom_engine.proofs.rt.path.nodes.Nodes.push.Goals as goal

pub returns-clause-position : goal.returns-clause-position
returns-clause-position c = search rules
