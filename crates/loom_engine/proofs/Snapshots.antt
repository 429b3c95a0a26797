-- What is kept of runs, in order.
use Rattle.std.proofs.Common.{◌≡◌, ◌⊎◌, ℕ, zero, suc, arith, List, [], ◌∷◌, ◌++◌, length, take, Some, ap, refl, sym, subst, ◌∙◌, inl, inr}
use Rattle.std.specs.Prelude.{All, slice_get}
use Rattle.std.proofs.lemmas.List.{take_at}

module _ {X : Type 0} where
  -- one more, where the others are there or none is
  pub one_more : (old mid new : List X) (x : X) → (mid ≡ old) ⊎ (mid ≡ []) → new ≡ mid ++ x ∷ [] → (new ≡ old ++ x ∷ []) ⊎ (new ≡ x ∷ [])
  one_more old mid new x (inl e) f = inl (f ∙ ap (λ (l : List X). l ++ x ∷ []) e)
  one_more old mid new x (inr e) f = inr (f ∙ ap (λ (l : List X). l ++ x ∷ []) e)

  -- what is so of all is so of the one at a place
  pub all_at : (P : X → Type 0) (xs : List X) (k : ℕ) (x : X) → slice_get xs k ≡ Some x → All P xs → P x
  all_at P [] k x e h = absurd (cc e)
  all_at P (y ∷ xs) zero x e h = let is : y ≡ x = cc e in subst P is (h 0 y (omega arith))
  all_at P (y ∷ xs) (suc k) x e h = all_at P xs k x e (λ i d l. h (suc i) d (omega (arith, l)))

  -- the last one
  pub last_there : (old new : List X) (x : X) → old ≡ new ++ x ∷ [] → slice_get old (length new) ≡ Some x
  last_there old new x e = ap (λ (l : List X). slice_get l (length new)) e ∙ at_end new
    where
      at_end : (xs : List X) → slice_get (xs ++ x ∷ []) (length xs) ≡ Some x
      at_end [] = refl
      at_end (y ∷ xs) = at_end xs

  -- the first of them
  pub first_of : (old new more : List X) → old ≡ new ++ more → new ≡ take (length new) old
  first_of old new more e = sym (ap (λ (l : List X). take (length new) l) e ∙ take_at new more (length new) refl)
