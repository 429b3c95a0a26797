-- The first values of a list.
use Rattle.std.proofs.Common.{zero, suc, ◌≡◌, ℕ, ◌<◌, List, [], ◌∷◌, set, take, refl, ap, arith}
use Rattle.std.specs.List.{slice_get}

pub get-taken : {A : Type 0} (xs : List A) (n k : ℕ) → k < n → slice_get (take n xs) k ≡ slice_get xs k
get-taken xs zero k l = absurd (omega (arith, l))
get-taken [] (suc n) k l = refl
get-taken (x ∷ xs) (suc n) zero l = refl
get-taken (x ∷ xs) (suc n) (suc k) l = get-taken xs n k (omega (arith, l))

pub set-taken : {A : Type 0} (xs : List A) (n k : ℕ) (a : A) → k < n → take n (set xs k a) ≡ set (take n xs) k a
set-taken xs zero k a l = absurd (omega (arith, l))
set-taken [] (suc n) k a l = refl
set-taken (x ∷ xs) (suc n) zero a l = refl
set-taken (x ∷ xs) (suc n) (suc k) a l = ap (λ ys. x ∷ ys) (set-taken xs n k a (omega (arith, l)))
