use Rattle.std.proofs.Common.{rules}
use Rattle.loom_views.proofs.rt.atomic.State.make.Goals as goal

pub push-requires-clause-room : goal.push-requires-clause-room
push-requires-clause-room c = search rules

pub returns-clause-made : goal.returns-clause-made
returns-clause-made c = search rules
