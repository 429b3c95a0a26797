use Rattle.std.proofs.Common.{rules}
use Rattle.loom_views.proofs.rt.atomic.State.track_load.Goals as goal

pub returns-clause-tested : goal.returns-clause-tested
returns-clause-tested c = search rules
