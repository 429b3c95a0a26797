use Rattle.std.proofs.Common.{rules}
use Rattle.loom_views.proofs.rt.synchronize.acquires.Goals as goal

pub returns-in-Acquire : goal.returns-in-Acquire
returns-in-Acquire c = search rules
