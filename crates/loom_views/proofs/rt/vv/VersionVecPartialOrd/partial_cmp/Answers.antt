use Rattle.std.proofs.Common.{rules}
use Rattle.loom_views.proofs.rt.vv.VersionVecPartialOrd.partial_cmp.Goals as goal

pub returns-in-false-false : goal.returns-in-false-false
returns-in-false-false c = search rules
