use Rattle.std.proofs.Common.{rules}
use Rattle.loom_objects.proofs.rt.schedule.better.Goals as goal

pub returns-in-Some : goal.returns-in-Some
returns-in-Some c = search rules
