use Rattle.std.proofs.Common.{arith}
use Rattle.std.proofs.lemmas.Bool.Decides.{nat_tests}
use Rattle.loom_views.proofs.Views.Lanes.{other_digests}
use Rattle.loom_views.proofs.rt.vv.VersionVec.differs.Goals as goal

pub returns : goal.returns
returns c = λ e. rw (← c.self.view_is, ← c.other.view_is) (other_digests c.self.inside.word c.other.inside.word _ _ c.self.invariant.1 c.other.invariant.1 c.word_digest.ensures c.word_digest-2.ensures (λ q. grind (arith, nat_tests)))
