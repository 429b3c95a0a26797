use Rattle.std.proofs.Common.{take}
use Rattle.loom_views.specs.InOrder.{PairAll, PairsPlaces, Ranked}
use Rattle.loom_views.proofs.rt.views.ranked.ranked_places.Given as goal

-- those so far pair with theirs by ranks
abbrev pub invariant-loop-kept : goal.invariant-loop-kept
invariant-loop-kept l = PairAll (Ranked l.ranks) (PairsPlaces (Ranked l.ranks)) (take l.kept-index l.places) l.ranked
