use Rattle.std.proofs.Common.{rules}
use Rattle.loom_objects.proofs.rt.atomic.reader_of.Goals as goal

pub returns-in-Load : goal.returns-in-Load
returns-in-Load c = search rules

pub returns-in-New : goal.returns-in-New
returns-in-New c = search rules
