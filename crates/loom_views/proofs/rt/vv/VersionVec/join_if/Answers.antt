use Rattle.std.proofs.Common.{arith}
use Rattle.loom_views.proofs.Views.Lanes.{counts_joined_if, joined_if_kept}
use Rattle.loom_views.proofs.rt.vv.VersionVec.join_if.Goals as goal

pub returns : goal.returns
returns c = rw (← c.self.view_is, ← c.other.view_is) (counts_joined_if c.self.inside.word c.other.inside.word c.larger_if-self-inside.result c.args.holds c.larger_if-self-inside.ensures)

pub invariant_of-self : goal.invariant_of-self
invariant_of-self c = joined_if_kept c.self.inside.word c.other.inside.word c.larger_if-self-inside.result c.args.holds c.self.invariant c.other.invariant (omega arith) c.larger_if-self-inside.ensures
