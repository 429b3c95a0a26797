use Rattle.std.proofs.Common.{◌≡◌, take}
use Rattle.loom_views.proofs.rt.views.ranked.packed_places.Given as goal

-- those so far
abbrev pub invariant-loop-kept : goal.invariant-loop-kept
invariant-loop-kept l = l.packed ≡ take l.kept-index l.places
