use Rattle.std.proofs.Common.{rules}
use Rattle.loom_views.proofs.rt.atomic.State.push.Goals as goal

pub returns : goal.returns
returns c = search rules
