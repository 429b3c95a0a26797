use Rattle.std.proofs.Common.{rules}
use Rattle.loom_views.proofs.rt.num.Numbers.complement.Goals as goal

pub returns-in_default : goal.returns-in_default
returns-in_default c = search rules
