use Rattle.loom_views.proofs.Views.Lanes.{ahead-is}
use Rattle.loom_views.proofs.rt.vv.VersionVec.ahead.Goals as goal

pub returns : goal.returns
returns c = rw (← c.self.view_is, ← c.other.view_is) (ahead-is c.first_larger.result c.self.inside.word c.other.inside.word c.other.invariant.1 c.first_larger.ensures)
