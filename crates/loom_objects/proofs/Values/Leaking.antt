-- The first leak of a list, found from one object to the next.
use Rattle.std.proofs.Common.{◌≡◌, ℕ, zero, suc, List, [], ◌∷◌, length, drop, Some, None, refl, ap}
use Rattle.std.specs.Prelude.{slice_get}
use Rattle.loom_objects.specs.declared.rt.object.Object.{Object}
use Rattle.loom_objects.specs.Rules.Leaks.{first_of, first_leak, leak_of}

module _ {D : Type 0} where
  pub leak_from : (objects : List (Object D)) (i : ℕ) (object : Object D) → slice_get objects i ≡ Some object → first_leak (drop i objects) ≡ first_of (leak_of object) (first_leak (drop (suc i) objects))
  leak_from [] i object e = absurd cc
  leak_from (x ∷ xs) zero object e = let same : x ≡ object = cc in ap (λ (o : Object D). first_of (leak_of o) (first_leak xs)) same
  leak_from (x ∷ xs) (suc i) object e = leak_from xs i object e

  pub none_after : (objects : List (Object D)) → first_leak (drop (length objects) objects) ≡ None
  none_after [] = refl
  none_after (x ∷ xs) = none_after xs
