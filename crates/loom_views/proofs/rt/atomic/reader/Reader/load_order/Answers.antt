use Rattle.std.proofs.Common.{rules}
use Rattle.loom_views.proofs.rt.atomic.reader.Reader.load_order.Goals as goal

pub returns-in-Update : goal.returns-in-Update
returns-in-Update c = search rules
