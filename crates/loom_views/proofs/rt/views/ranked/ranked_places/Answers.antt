use Rattle.std.proofs.Common.{arith}
use Rattle.loom_views.specs.InOrder.{PairsPlaces, Ranked}
use Rattle.loom_views.proofs.Ranks.{pair_next}
use Rattle.loom_views.proofs.rt.views.ranked.ranked_places.Goals as goal

pub loop-kept-preserved : goal.loop-kept-preserved
loop-kept-preserved c =
    let pairs = Ranked c.args.ranks.now in
    let h = rw c.in-Some.is at c.in_ok-found.ensures in
    pair_next pairs (PairsPlaces pairs) c.args.places.now c.loop-kept.ranked c.in-Some.more c.loop-kept.kept-index c.kept-item.result h.0 (omega (arith, c.loop-kept-test.true)) h.2 c.loop-kept.invariant c.kept-item.is h.1
