-- The value of a key, by the place of the first one of that key.
use Rattle.std.proofs.Common.{◌≡◌, ◌+◌, ◌<◌, length, subst, ℕ, suc, Bool, true, false, List, [], ◌∷◌, Option, Some, None, set, refl, ap, arith, sym, ◌∙◌}
use Rattle.std.specs.Prelude.{slice_get, ◌==◌}
use Rattle.std.proofs.lemmas.Option.{slice_get_within}
use Rattle.std.specs.List.{find, position_from}
use Rattle.loom_objects.specs.declared.operation.Keyed.{Keyed}
use Rattle.loom_objects.specs.Rules.Locals.{has_key, put_in}

zero_plus : (i : ℕ) → 0 + i ≡ i
zero_plus i = omega arith

module _ {D : Type 0} where
  -- no value has the key, and another one takes no place; or this one has it, and another one takes its place
  abbrev pub IsThere : ℕ → D → ℕ → List (Keyed D) → Option ℕ → Type 0
  IsThere key value n xs None = (find (has_key key) xs ≡ None) × (put_in key value xs ≡ xs)
  IsThere key value n xs (Some m) =
      (i : ℕ) × (m ≡ n + i) × (x : Keyed D) × (slice_get xs i ≡ Some x) × (find (has_key key) xs ≡ Some x) × (put_in key value xs ≡ set xs i (record x { value = value }))

  later : (key : ℕ) (value : D) (n : ℕ) (x : Keyed D) (xs : List (Keyed D)) (m : Option ℕ) → (x.key == key) ≡ false → IsThere key value (n + 1) xs m → IsThere key value n (x ∷ xs) m
  later key value n x xs None e h = (rw e h.0, rw e (ap (λ (rest : List (Keyed D)). x ∷ rest) h.1))
  later key value n x xs (Some m) e (i, is, y, at, found, put) = (suc i, omega (arith, is), y, at, rw e found, rw e (ap (λ (rest : List (Keyed D)). x ∷ rest) put))

  here : (key : ℕ) (value : D) (n : ℕ) (x : Keyed D) (xs : List (Keyed D)) (b : Bool) → (x.key == key) ≡ b → IsThere key value (n + 1) xs (position_from (has_key key) (n + 1) xs)
      → IsThere key value n (x ∷ xs) (position_from (has_key key) n (x ∷ xs))
  here key value n x xs true e h = rw e (0, omega arith, x, refl, rw e refl, rw e refl)
  here key value n x xs false e h = rw e (later key value n x xs (position_from (has_key key) (n + 1) xs) e h)

  from_place : (key : ℕ) (value : D) (n : ℕ) (xs : List (Keyed D)) → IsThere key value n xs (position_from (has_key key) n xs)
  from_place key value n [] = (refl, refl)
  from_place key value n (x ∷ xs) = here key value n x xs (x.key == key) refl (from_place key value (n + 1) xs)

  -- by the place that was found
  pub there : (key : ℕ) (value : D) (xs : List (Keyed D)) → IsThere key value 0 xs (position_from (has_key key) 0 xs)
  there key value xs = from_place key value 0 xs

  pub none_there : (key : ℕ) (value : D) (xs : List (Keyed D)) → None ≡ position_from (has_key key) 0 xs → (find (has_key key) xs ≡ None) × (put_in key value xs ≡ xs)
  none_there key value xs e = subst (IsThere key value 0 xs) (sym e) (there key value xs)

  module _ (key : ℕ) (value : D) (xs : List (Keyed D)) (m : ℕ) (e : Some m ≡ position_from (has_key key) 0 xs) where
    at_place : IsThere key value 0 xs (Some m)
    at_place = subst (IsThere key value 0 xs) (sym e) (there key value xs)

    pub there_within : m < length xs
    there_within = let h = at_place in let l = slice_get_within xs h.0 h.2 h.3 in let is = h.1 in omega (arith, is, l)

    there_is : (x : Keyed D) → slice_get xs m ≡ Some x → at_place.2 ≡ x
    there_is x f = let h = at_place in let is : m ≡ h.0 = h.1 ∙ zero_plus h.0 in let g = rw is at f in let d : h.2 ≡ x = cc (h.3, g) in d

    pub there_found : (x : Keyed D) → slice_get xs m ≡ Some x → find (has_key key) xs ≡ Some x
    there_found x f = subst (λ (y : Keyed D). find (has_key key) xs ≡ Some y) (there_is x f) at_place.4

    pub there_put : (x : Keyed D) → slice_get xs m ≡ Some x → set xs m (record x { value = value }) ≡ put_in key value xs
    there_put x f = let h = at_place in let is : m ≡ h.0 = h.1 ∙ zero_plus h.0 in sym (rw is (subst (λ (y : Keyed D). put_in key value xs ≡ set xs h.0 (record y { value = value })) (there_is x f) h.5))
