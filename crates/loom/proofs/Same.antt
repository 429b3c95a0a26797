-- Whether two values of one type are the same, where it is known of which kind they are.
use Rattle.std.proofs.Common.{◌≡◌, ◌↔◌, ℕ, Bool, true, false, IsTrue, nat_eq, arith, refl}
use Rattle.std.specs.Prelude.{◌≢◌}
use Rattle.std.proofs.lemmas.Bool.Decides.{nat_tests}

-- the same kind, which holds nothing
pub same_kind : {A : Type 0} (one other : A) → one ≡ other → IsTrue true ↔ (one ≡ other)
same_kind one other same = ((λ t. same), (λ e. refl))

-- the same kind, and its numbers are compared
pub same_number : {A : Type 0} (one other : A) (a x : ℕ) → (a ≡ x → one ≡ other) → (one ≡ other → a ≡ x) → IsTrue (nat_eq a x) ↔ (one ≡ other)
same_number one other a x to from = ((λ t. to (grind (arith, nat_tests, t))), (λ e. let k = from e in grind (arith, nat_tests, k)))

-- the same kind, and what it holds is compared
pub same_value : {A D : Type 0} (one other : A) (a x : D) (b : Bool) → IsTrue b ↔ (a ≡ x) → (a ≡ x → one ≡ other) → (one ≡ other → a ≡ x) → IsTrue b ↔ (one ≡ other)
same_value one other a x b is to from = ((λ t. to (is.0 t)), (λ e. is.1 (from e)))

-- the same kind, with another number
pub other_number : {A : Type 0} (one other : A) (a x : ℕ) → a ≢ x → (one ≡ other → a ≡ x) → IsTrue (nat_eq a x) ↔ (one ≡ other)
other_number one other a x wrong from = ((λ t. absurd (wrong (grind (arith, nat_tests, t)))), (λ e. absurd (wrong (from e))))

-- another kind
pub other_kind : {A : Type 0} (one other : A) → one ≢ other → IsTrue false ↔ (one ≡ other)
other_kind one other wrong = ((λ t. cc t), (λ e. absurd (wrong e)))
