-- The place for a waker that is found again once it was changed.
use Rattle.std.proofs.Common.{◌≡◌, ℕ, ap}
use Rattle.std.proofs.lemmas.Option.{slice_get_within}
use Rattle.std.specs.Prelude.{List, slice_get, slice_set, Ok}
use Rattle.loom_views.proofs.Atomic.Table.Lists.{get-set_same}
use Rattle.loom_objects.specs.declared.rt.object.Object.{Object}
use Rattle.loom_objects.specs.declared.rt.object.Object.TheVariants as object
use Rattle.loom_objects.specs.declared.rt.atomic_waker.AtomicWaker.{AtomicWaker}
use Rattle.loom_objects.specs.Scene.Lookup.{looked_up, atomic_waker_at, atomic_waker_in}
use Rattle.loom_objects.proofs.Scene.Finding.{place_stands}

module _ {D : Type 0} where
  pub found_again : (objects : List (Object D)) (p : ℕ) (place other : AtomicWaker) → atomic_waker_at p objects ≡ Ok place → atomic_waker_at p (slice_set objects p (object.AtomicWaker other)) ≡ Ok other
  found_again objects p place other at =
      ap (looked_up atomic_waker_in) (get-set_same objects p (object.AtomicWaker other) (slice_get_within objects p (object.AtomicWaker place) (place_stands (slice_get objects p) place at)))
