use Rattle.std.proofs.Common.{◌≡◌, ◌++◌, length}
use Rattle.loom_views.specs.Packed.{all_stores, unpacked}
use Rattle.loom_views.proofs.rt.views.packed.PackedPlaces.shared.Given as goal

-- those so far are the first ones, and those left have the stores that are left
abbrev pub invariant-loop-one : goal.invariant-loop-one
invariant-loop-one l = (all_stores l.rest ≡ length l.left) × (l.places.items ++ unpacked l.rest l.left ≡ l.fn.self)

abbrev pub decreases-loop-one : goal.decreases-loop-one
decreases-loop-one l = length l.rest
