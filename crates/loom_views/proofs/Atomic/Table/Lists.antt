-- Elements by their index, where a list is written or appended to.
use Rattle.std.proofs.Common.{zero, suc, ◌≡◌, ◌≢◌, ℕ, ◌<◌, ◌≤◌, List, [], ◌∷◌, ◌++◌, length, set, refl, ap, sym, arith, Some}
use Rattle.std.specs.List.{slice_get}

pub get-set_same : {X : Type 0} (xs : List X) (i : ℕ) (x : X) → i < length xs → slice_get (set xs i x) i ≡ Some x
get-set_same [] i x h = absurd (omega arith)
get-set_same (y ∷ xs) zero x h = refl
get-set_same (y ∷ xs) (suc i) x h = get-set_same xs i x (omega arith)

pub get-set_other : {X : Type 0} (xs : List X) (i j : ℕ) (x : X) → j ≢ i → slice_get (set xs i x) j ≡ slice_get xs j
get-set_other [] i j x h = refl
get-set_other (y ∷ xs) zero zero x h = absurd (h refl)
get-set_other (y ∷ xs) zero (suc j) x h = refl
get-set_other (y ∷ xs) (suc i) zero x h = refl
get-set_other (y ∷ xs) (suc i) (suc j) x h = get-set_other xs i j x (λ e. h (ap suc e))

-- the element that is appended, and the others
pub get-append_same : {X : Type 0} (xs : List X) (i : ℕ) (x : X) → i ≡ length xs → slice_get (xs ++ x ∷ []) i ≡ Some x
get-append_same [] zero x e = refl
get-append_same [] (suc i) x e = absurd (omega arith)
get-append_same (y ∷ xs) zero x e = absurd (omega arith)
get-append_same (y ∷ xs) (suc i) x e = get-append_same xs i x (omega arith)

pub get-append_other : {X : Type 0} (xs : List X) (i : ℕ) (x : X) → i ≢ length xs → slice_get (xs ++ x ∷ []) i ≡ slice_get xs i
get-append_other [] zero x n = absurd (n refl)
get-append_other [] (suc i) x n = refl
get-append_other (y ∷ xs) zero x n = refl
get-append_other (y ∷ xs) (suc i) x n = get-append_other xs i x (λ e. n (ap suc e))

-- an element written in its place
pub set-same : {X : Type 0} (xs : List X) (i : ℕ) (x : X) → slice_get xs i ≡ Some x → set xs i x ≡ xs
set-same [] i x e = refl
set-same (y ∷ xs) zero x e = let d : y ≡ x = cc in ap (λ z. z ∷ xs) (sym d)
set-same (y ∷ xs) (suc i) x e = ap (λ zs. y ∷ zs) (set-same xs i x e)

-- an element written past the end
pub set-past : {X : Type 0} (xs : List X) (i : ℕ) (x : X) → length xs ≤ i → set xs i x ≡ xs
set-past [] i x h = refl
set-past (y ∷ xs) zero x h = absurd (omega arith)
set-past (y ∷ xs) (suc i) x h = ap (λ ys. y ∷ ys) (set-past xs i x (omega arith))
