use Rattle.std.proofs.Common.{arith}
use Rattle.loom_views.specs.InOrder.{PairsVectors, Ranked}
use Rattle.loom_views.proofs.Ranks.{pair_next}
use Rattle.loom_views.proofs.rt.views.ranked.ranked_stamps.Goals as goal

pub loop-stamp-preserved : goal.loop-stamp-preserved
loop-stamp-preserved c =
    let pairs = Ranked c.args.ranks.now in
    pair_next pairs (PairsVectors pairs) c.args.stamps.now c.loop-stamp.ranked c.push.new.self c.loop-stamp.stamp-index c.stamp-item.result c.in-Some.one (omega (arith, c.loop-stamp-test.true)) c.in_ok-push.ensures.ok c.loop-stamp.invariant c.stamp-item.is c.in-Some.ensures
