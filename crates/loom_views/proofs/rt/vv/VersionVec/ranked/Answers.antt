use Rattle.std.proofs.Common.{sym}
use Rattle.loom_views.specs.InOrder.{Ranked}
use Rattle.loom_views.proofs.Ranks.{five_counted, five_ranked, zeros_themselves}
use Rattle.loom_views.proofs.rt.vv.VersionVec.ranked.Goals as goal

pub returns-then-self-eq0 : goal.returns-then-self-eq0
returns-then-self-eq0 c = zeros_themselves (Ranked c.args.ranks.now) c.self.inside.word c.args.self.now c.if-self-eq0.true (sym c.self.view_is) c.zeros.ensures

pub of-requires : goal.of-requires
of-requires c = record { counted = five_counted c.in_ok-zeroth.zeroth c.in_ok-first.first c.in_ok-second.second c.in_ok-third.third c.in_ok-fourth.fourth c.in_ok-zeroth.ensures.most c.in_ok-first.ensures.most c.in_ok-second.ensures.most c.in_ok-third.ensures.most c.in_ok-fourth.ensures.most }

pub returns : goal.returns
returns c =
    five_ranked (Ranked c.args.ranks.now) c.args.self.now c.of.result c.version.result c.version-2.result c.version-3.result c.version-4.result c.version-5.result c.in_ok-zeroth.zeroth c.in_ok-first.first c.in_ok-second.second
    c.in_ok-third.third c.in_ok-fourth.fourth c.of.ensures c.version.ensures.value c.version-2.ensures.value c.version-3.ensures.value c.version-4.ensures.value c.version-5.ensures.value c.in_ok-zeroth.ensures.ranked
    c.in_ok-first.ensures.ranked c.in_ok-second.ensures.ranked c.in_ok-third.ensures.ranked c.in_ok-fourth.ensures.ranked
