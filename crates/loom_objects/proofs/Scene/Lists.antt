-- A map that is made in place, one item after another.
use Rattle.std.proofs.Common.{◌≡◌, ◌<◌, ℕ, zero, suc, ◌+◌, List, [], ◌∷◌, ◌++◌, length, map, take, drop, set, get_or, arith, refl}
use Rattle.std.specs.Prelude.{slice_get, slice_set, Some}
use Rattle.std.proofs.lemmas.List.Edits.{map_over_more}
use Rattle.std.proofs.lemmas.Grind.{common_steps}

pub get_or-is : {A : Type 0} (xs : List A) (i : ℕ) (x : A) → slice_get xs i ≡ Some x → x ≡ get_or xs i x
get_or-is [] i x e = refl
get_or-is (y ∷ ys) zero x e = cc
get_or-is (y ∷ ys) (suc i) x e = get_or-is ys i x e

-- one more item of a map in place
pub map-step : {A : Type 0} (f : A → A) (xs ys : List A) (i n : ℕ) (x : A)
    → (ys ≡ map f (take i xs) ++ drop i xs) × (length ys ≡ n) × (length xs ≡ n) → i < n → slice_get ys i ≡ Some x
    → (set ys i (f x) ≡ map f (take (i + 1) xs) ++ drop (i + 1) xs) × (length (set ys i (f x)) ≡ n) × (length xs ≡ n)
map-step f xs ys i n x h l at =
    (map_over_more f xs ys i x (omega arith) h.0 (get_or-is ys i x at), grind (arith, common_steps), h.2)

-- the first item alone, and another one in its place
pub first-set : {A : Type 0} (xs : List A) (x : A) → 0 < length xs → slice_set (take 1 xs) 0 x ≡ x ∷ []
first-set [] x p = absurd (omega arith)
first-set (y ∷ ys) x p = refl
