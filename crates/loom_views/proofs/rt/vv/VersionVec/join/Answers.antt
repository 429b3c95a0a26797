use Rattle.std.proofs.Common.{arith, refl}
use Rattle.loom_views.proofs.Views.Lanes.{counts_joined, joined_kept}
use Rattle.loom_views.proofs.Views.VersionLists.{join-bound}
use Rattle.loom_views.proofs.rt.vv.VersionVec.join.Goals as goal

pub returns-clause-joined : goal.returns-clause-joined
returns-clause-joined c = rw (← c.self.view_is, ← c.other.view_is) (counts_joined c.self.inside.word c.other.inside.word c.larger-self-inside.result c.larger-self-inside.ensures)

pub returns-clause-bound : goal.returns-clause-bound
returns-clause-bound c = rw (← c.self.view_is, ← c.other.view_is, counts_joined c.self.inside.word c.other.inside.word c.larger-self-inside.result c.larger-self-inside.ensures) (join-bound _ _ refl)

pub invariant_of-self : goal.invariant_of-self
invariant_of-self c = joined_kept c.self.inside.word c.other.inside.word c.larger-self-inside.result c.self.invariant c.other.invariant (omega arith) c.larger-self-inside.ensures
