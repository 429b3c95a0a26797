use Rattle.std.proofs.Common.{take}
use Rattle.loom_views.specs.InOrder.{PairAll, PairsVectors, Ranked}
use Rattle.loom_views.proofs.rt.views.ranked.ranked_stamps.Given as goal

-- those so far pair with theirs by ranks
abbrev pub invariant-loop-stamp : goal.invariant-loop-stamp
invariant-loop-stamp l = PairAll (Ranked l.ranks) (PairsVectors (Ranked l.ranks)) (take l.stamp-index l.stamps) l.ranked
