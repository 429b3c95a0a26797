use Rattle.std.proofs.Common.{◌≡◌, length}
use Rattle.loom_views.specs.Packed.{all_stores, unpacked}
use Rattle.loom_views.proofs.rt.views.packed.PackedPlaces.are_shared.Given as goal

-- those left have the stores that are left, and would have to be the same
abbrev pub invariant-loop-one : goal.invariant-loop-one
invariant-loop-one l = (all_stores l.rest ≡ length l.left) × (unpacked l.rest l.left ≡ l.same → l.fn.self ≡ l.fn.places)

abbrev pub decreases-loop-one : goal.decreases-loop-one
decreases-loop-one l = length l.rest
