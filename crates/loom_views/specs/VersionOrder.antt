-- The order of version vectors is a partial order.
use Rattle.std.proofs.Common.{◌≡◌, ℕ, Bool, true, false, ◌&&◌, List, [], ◌∷◌, refl, ap, sym, ◌∙◌, arith, Option, Some, None}
use Rattle.std.specs.Prelude.{leb, if◌then◌else◌}
use Rattle.std.specs.Bool.{Decides}
use Rattle.std.specs.Option.{option_map}
use Rattle.std.specs.Ordering.{ordering_reverse}
use Rattle.std.specs.Cmp.{IsPartialOrder, IsEquivalence, IsPartialEquivalence}
use Rattle.std.specs.declared.cmp.Ordering.{Ordering}
use Rattle.std.specs.declared.cmp.Ordering.TheVariants.{Less, Equal, Greater}
use Rattle.std.proofs.lemmas.Bool.{and_parts, and_from, le-leb, leb-true, true≢false, false≢true, false_from_ne_true}
use Rattle.loom_views.specs.Versions.{within, versions_eq, versions_cmp}

-- each vector is inside itself
pub within-itself : (vs : List ℕ) → within vs vs ≡ true
within-itself [] = refl
within-itself (v ∷ vs) = and_from (leb v v) (within vs vs) (le-leb v v (omega arith)) (within-itself vs)

same_tests : (a b : Bool) → (a ≡ true → b ≡ true) → (b ≡ true → a ≡ true) → a ≡ b
same_tests true b f g = sym (f refl)
same_tests false true f g = g refl
same_tests false false f g = refl

-- what is inside what is inside another is inside that
pub within-transitive : (us vs ws : List ℕ) → within us vs ≡ true → within vs ws ≡ true → within us ws ≡ true
within-transitive [] vs ws a b = refl
within-transitive (u ∷ us) [] ws a b = absurd (false≢true a)
within-transitive (u ∷ us) (v ∷ vs) [] a b = absurd (false≢true b)
within-transitive (u ∷ us) (v ∷ vs) (w ∷ ws) a b =
    let p = and_parts (leb u v) (within us vs) a in
    let q = and_parts (leb v w) (within vs ws) b in
    and_from (leb u w) (within us ws) (le-leb u w (omega (arith, leb-true u v p.0, leb-true v w q.0))) (within-transitive us vs ws p.1 q.1)

eq_symm : (a b : Bool) → (a && b) ≡ (b && a)
eq_symm true true = refl
eq_symm true false = refl
eq_symm false true = refl
eq_symm false false = refl

eq_trans : (us vs ws : List ℕ) → versions_eq us vs ≡ true → versions_eq vs ws ≡ true → versions_eq us ws ≡ true
eq_trans us vs ws a b =
    let p = and_parts (within us vs) (within vs us) a in
    let q = and_parts (within vs ws) (within ws vs) b in
    and_from (within us ws) (within ws us) (within-transitive us vs ws p.0 q.0) (within-transitive ws vs us q.1 p.1)

-- what is equal to the left is on the same sides of everything
within-eq_left : (us vs ws : List ℕ) → versions_eq us vs ≡ true → within us ws ≡ within vs ws
within-eq_left us vs ws e =
    let p = and_parts (within us vs) (within vs us) e in
    same_tests (within us ws) (within vs ws) (λ h. within-transitive vs us ws p.1 h) (λ h. within-transitive us vs ws p.0 h)

within-eq_right : (us vs ws : List ℕ) → versions_eq us vs ≡ true → within ws us ≡ within ws vs
within-eq_right us vs ws e =
    let p = and_parts (within us vs) (within vs us) e in
    same_tests (within ws us) (within ws vs) (λ h. within-transitive ws us vs h p.0) (λ h. within-transitive ws vs us h p.1)

-- equality is symmetric and transitive
pub versions_partial_equiv : IsPartialEquivalence versions_eq
versions_partial_equiv = record {
  symm = λ us vs. eq_symm (within us vs) (within vs us);
  trans = eq_trans;
}

-- and reflexive
pub versions_equiv : IsEquivalence versions_eq
versions_equiv = record {
  refl = λ vs. and_from (within vs vs) (within vs vs) (within-itself vs) (within-itself vs);
  symm = λ us vs. eq_symm (within us vs) (within vs us);
  congr = λ us vs ws e. ap (λ b. b && within ws us) (within-eq_left us vs ws e) ∙ ap (λ b. within vs ws && b) (within-eq_right us vs ws e);
}

-- the answer by the two tests
abbrev answer : Bool → Bool → Option Ordering
answer a b = if a then (if b then Some Equal else Some Less) else (if b then Some Greater else None)

answer_reversed : (a b : Bool) → answer a b ≡ option_map ordering_reverse (answer b a)
answer_reversed true true = refl
answer_reversed true false = refl
answer_reversed false true = refl
answer_reversed false false = refl

answer_less : (a b : Bool) → answer a b ≡ Some Less → (a ≡ true) × (b ≡ false)
answer_less true true e = cc
answer_less true false e = (refl, refl)
answer_less false true e = cc
answer_less false false e = cc

answer_equal : (a b : Bool) → Decides (a && b) (answer a b ≡ Some Equal)
answer_equal true true = (λ _. refl, λ _. refl)
answer_equal true false = (λ e. absurd (false≢true e), λ e. cc)
answer_equal false true = (λ e. absurd (false≢true e), λ e. cc)
answer_equal false false = (λ e. absurd (false≢true e), λ e. cc)

less_trans : (us vs ws : List ℕ) → versions_cmp us vs ≡ Some Less → versions_cmp vs ws ≡ Some Less → versions_cmp us ws ≡ Some Less
less_trans us vs ws a b =
    let p = answer_less (within us vs) (within vs us) a in
    let q = answer_less (within vs ws) (within ws vs) b in
    let up : within us ws ≡ true = within-transitive us vs ws p.0 q.0 in
    let down : within ws us ≡ false = false_from_ne_true (within ws us) (λ h. true≢false (sym (within-transitive ws us vs h p.0) ∙ q.1)) in
    rw (up, down) refl

-- the order is antisymmetric and transitive, and agrees with equality
pub versions_order : IsPartialOrder versions_eq versions_cmp
versions_order = record {
  antisymm = λ us vs. answer_reversed (within us vs) (within vs us);
  trans = less_trans;
  matches_eq = λ us vs. answer_equal (within us vs) (within vs us);
  congr = λ us vs ws e. ap (λ b. answer b (within ws us)) (within-eq_left us vs ws e) ∙ ap (λ b. answer (within vs ws) b) (within-eq_right us vs ws e);
}
