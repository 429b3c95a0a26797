-- Lists that grow by copies of a value.
use Rattle.std.proofs.Common.{zero, suc, ◌≡◌, ℕ, ◌+◌, List, [], ◌∷◌, ◌++◌, length, get_or, refl, ap, ◌∙◌, arith, append_assoc}
use Rattle.loom_objects.specs.Dependence.Order.{copies}

-- one copy more behind
pub copies-more : {A : Type 0} (n : ℕ) (a : A) → copies n a ++ a ∷ [] ≡ copies (n + 1) a
copies-more n a = let e : n + 1 ≡ suc n = omega arith in rw e (behind n)
  where
    behind : (m : ℕ) → copies m a ++ a ∷ [] ≡ a ∷ copies m a
    behind zero = refl
    behind (suc m) = ap (λ xs. a ∷ xs) (behind m)

pub append-copies-more : {A : Type 0} (xs : List A) (n : ℕ) (a : A) → (xs ++ copies n a) ++ a ∷ [] ≡ xs ++ copies (n + 1) a
append-copies-more xs n a = append_assoc xs (copies n a) (a ∷ []) ∙ ap (λ ys. xs ++ ys) (copies-more n a)

pub append-nil : {A : Type 0} (xs : List A) → xs ++ [] ≡ xs
append-nil [] = refl
append-nil (x ∷ xs) = ap (λ ys. x ∷ ys) (append-nil xs)

pub length-copies : {A : Type 0} (n : ℕ) (a : A) → length (copies n a) ≡ n
length-copies zero a = refl
length-copies (suc n) a = let e = length-copies n a in omega arith

-- copies of the default change nothing that is read
pub get_or-copies : {A : Type 0} (xs : List A) (n k : ℕ) (a : A) → get_or (xs ++ copies n a) k a ≡ get_or xs k a
get_or-copies [] zero k a = refl
get_or-copies [] (suc n) zero a = refl
get_or-copies [] (suc n) (suc k) a = get_or-copies [] n k a
get_or-copies (x ∷ xs) n zero a = refl
get_or-copies (x ∷ xs) n (suc k) a = get_or-copies xs n k a
