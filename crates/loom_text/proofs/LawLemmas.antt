-- The laws of counted states.
use Rattle.std.proofs.Common.{◌≡◌, ℕ, ◌+◌, ◌≤◌, ◌&&◌, true, false, eqb, List, [], ◌∷◌, take, refl, sym, ap, ◌∙◌, subst, inl, inr, arith, eq-eqb}
use Rattle.std.proofs.lemmas.Bool.{cases_Bool, cases_eq, and_parts, eqb-true, ne_eqb, false≢true}
use Rattle.std.proofs.lemmas.Bool.Decides.{nat_tests}
use Rattle.loom_text.specs.declared.run.layout.Layout.{Layout}
use Rattle.loom_text.specs.declared.test.Test.{Test}
use Rattle.loom_text.specs.Run.Counted.{Counted, Tallied}
use Rattle.loom_text.specs.Run.Laws.{AreInOrder, IsBeforeAll, NeverLaw, NoneMeets, NotBeforeItselfLaw, OrderLaw, StatesLaw, runs_of, showing}
use Rattle.loom_text.specs.Run.Operators.{is_less, truth}
use Rattle.loom_text.specs.Run.States.{added, counts, is_before, is_positive, is_same, nothing_told, told, told_all}

-- ---- the same numbers

pub same_is : (one other : List ℕ) → is_same one other ≡ true → one ≡ other
same_is [] [] h = refl
same_is [] (n ∷ other) h = absurd (false≢true h)
same_is (m ∷ one) [] h = absurd (false≢true h)
same_is (m ∷ one) (n ∷ other) h =
    let parts = and_parts (eqb m n) (is_same one other) h in
    let heads : m ≡ n = eqb-true m n parts.0 in
    let tails : one ≡ other = same_is one other parts.1 in
    cc

-- ---- one run more

runs_added : (v w : List ℕ) (states : List Counted) → runs_of v (added w states) ≡ truth (is_same w v) + runs_of v states
runs_added v w [] = refl
runs_added v w (s ∷ states) = elim (cases_Bool (is_before s.numbers w)) [
  | inl e ↦ rw (e, runs_added v w states) (omega arith)
  | inr e ↦ elim (cases_Bool (is_same s.numbers w)) [
    | inl same ↦
        let is : s.numbers ≡ w = same_is s.numbers w same in
        rw (e, same) (elim (cases_Bool (is_same w v)) [
          | inl there ↦ let here : is_same s.numbers v ≡ true = ap (λ x. is_same x v) is ∙ there in rw (there, here) (omega arith)
          | inr there ↦ let here : is_same s.numbers v ≡ false = ap (λ x. is_same x v) is ∙ there in rw (there, here) (omega arith)
        ])
    | inr other ↦ rw (e, other) refl
  ]
]

runs_told : (v : List ℕ) (t : Tallied) (numbers : List ℕ)
    → runs_of v (told t numbers).states ≡ truth (counts t.test t.layout numbers && is_same (take t.layout.shown numbers) v) + runs_of v t.states
runs_told v t numbers = elim (cases_Bool (counts t.test t.layout numbers)) [
  | inl e ↦ rw e (runs_added v (take t.layout.shown numbers) t.states)
  | inr e ↦ rw e (omega arith)
]

told_test : (t : Tallied) (numbers : List ℕ) → (told t numbers).test ≡ t.test
told_test t numbers = elim (cases_Bool (counts t.test t.layout numbers)) [ inl e ↦ rw e refl | inr e ↦ rw e refl ]

told_layout : (t : Tallied) (numbers : List ℕ) → (told t numbers).layout ≡ t.layout
told_layout t numbers = elim (cases_Bool (counts t.test t.layout numbers)) [ inl e ↦ rw e refl | inr e ↦ rw e refl ]

runs_told_all : (v : List ℕ) (test : Test) (layout : Layout) (t : Tallied) (results : List (List ℕ)) → t.test ≡ test → t.layout ≡ layout
    → runs_of v (told_all t results).states ≡ showing test layout v results + runs_of v t.states
runs_told_all v test layout t [] is_test is_layout = sym (omega arith)
runs_told_all v test layout t (numbers ∷ results) is_test is_layout =
    let rest = runs_told_all v test layout (told t numbers) results (told_test t numbers ∙ is_test) (told_layout t numbers ∙ is_layout) in
    let here : runs_of v (told t numbers).states ≡ truth (counts test layout numbers && is_same (take layout.shown numbers) v) + runs_of v t.states =
    subst (λ (x : Test). runs_of v (told t numbers).states ≡ truth (counts x layout numbers && is_same (take layout.shown numbers) v) + runs_of v t.states) is_test
    (subst (λ (x : Layout). runs_of v (told t numbers).states ≡ truth (counts t.test x numbers && is_same (take x.shown numbers) v) + runs_of v t.states) is_layout (runs_told v t numbers)) in
    omega (arith, rest, here)

pub states_law : StatesLaw
states_law test layout results numbers =
    let all = runs_told_all numbers test layout (nothing_told test layout) results refl refl in
    omega (arith, all)

-- ---- the order of states

less_trans : (a b c : ℕ) → is_less a b ≡ true → is_less b c ≡ true → is_less a c ≡ true
less_trans a b c h k = grind (arith, nat_tests)

less_total : (a b : ℕ) → (a ≡ b → ⊥) → is_less a b ≡ false → is_less b a ≡ true
less_total a b other h = grind (arith, nat_tests)

less_not_self : (a : ℕ) → is_less a a ≡ false
less_not_self a = grind (arith, nat_tests)

pub not_before_itself : NotBeforeItselfLaw
not_before_itself [] = refl
not_before_itself (n ∷ numbers) = rw (eq-eqb n n refl) (not_before_itself numbers)

pub before_trans : (a b c : List ℕ) → is_before a b ≡ true → is_before b c ≡ true → is_before a c ≡ true
before_trans a [] c h k = absurd (false≢true h)
before_trans a (m ∷ b) [] h k = absurd (false≢true k)
before_trans [] (m ∷ b) (n ∷ c) h k = refl
before_trans (l ∷ a) (m ∷ b) (n ∷ c) h k = elim (cases_eq l m) [
  | inl e ↦ elim (cases_eq m n) [
    | inl f ↦
        let g = eq-eqb l m e in
        let g2 = eq-eqb m n f in
        let g3 = eq-eqb l n (e ∙ f) in
        let one = rw g at h in
        let other = rw g2 at k in
        rw g3 (before_trans a b c one other)
    | inr f ↦
        let g = ne_eqb m n f in
        let g2 = ne_eqb l n (λ x. f (sym e ∙ x)) in
        let other = rw g at k in
        rw g2 (rw e other)
  ]
  | inr e ↦ elim (cases_eq m n) [
    | inl f ↦
        let g = ne_eqb l m e in
        let g2 = ne_eqb l n (λ x. e (x ∙ sym f)) in
        let one = rw g at h in
        rw g2 (rw (← f) one)
    | inr f ↦
        let g = ne_eqb l m e in
        let g2 = ne_eqb m n f in
        let one = rw g at h in
        let other = rw g2 at k in
        let less = less_trans l m n one other in
        let apart : l ≡ n → ⊥ = λ x. absurd (false≢true (sym (less_not_self n) ∙ rw x at less)) in
        rw (ne_eqb l n apart) less
  ]
]

pub before_total : (a b : List ℕ) → is_before a b ≡ false → is_same a b ≡ false → is_before b a ≡ true
before_total [] [] h other = absurd (false≢true (sym other))
before_total [] (n ∷ b) h other = absurd (false≢true (sym h))
before_total (m ∷ a) [] h other = refl
before_total (m ∷ a) (n ∷ b) h other = elim (cases_eq m n) [
  | inl e ↦
      let g = eq-eqb m n e in
      let g2 = eq-eqb n m (sym e) in
      let one = rw g at h in
      let two = rw g at other in
      rw g2 (before_total a b one two)
  | inr e ↦
      let g = ne_eqb m n e in
      let one = rw g at h in
      rw (ne_eqb n m (λ x. e (sym x))) (less_total m n e one)
]

-- what is before the first is before all
before_all : (a b : List ℕ) (states : List Counted) → is_before a b ≡ true → IsBeforeAll b states → IsBeforeAll a states
before_all a b [] h k = tt
before_all a b (s ∷ states) h k = (before_trans a b s.numbers h k.0, before_all a b states h k.1)

before_added : (a w : List ℕ) (states : List Counted) → is_before a w ≡ true → IsBeforeAll a states → IsBeforeAll a (added w states)
before_added a w [] h k = (h, tt)
before_added a w (s ∷ states) h k = elim (cases_Bool (is_before s.numbers w)) [
  | inl e ↦ rw e (k.0, before_added a w states h k.1)
  | inr e ↦ elim (cases_Bool (is_same s.numbers w)) [
    | inl same ↦ rw (e, same) k
    | inr other ↦ rw (e, other) (h, k)
  ]
]

in_order_added : (w : List ℕ) (states : List Counted) → AreInOrder states → AreInOrder (added w states)
in_order_added w [] h = (omega arith, tt, tt)
in_order_added w (s ∷ states) h = elim (cases_Bool (is_before s.numbers w)) [
  | inl e ↦ rw e (h.0, before_added s.numbers w states e h.1, in_order_added w states h.2)
  | inr e ↦ elim (cases_Bool (is_same s.numbers w)) [
    | inl same ↦ rw (e, same) (omega arith, h.1, h.2)
    | inr other ↦
        let before : is_before w s.numbers ≡ true = before_total s.numbers w e other in
        rw (e, other) (omega arith, (before, before_all w s.numbers states before h.1), h)
  ]
]

in_order_told : (t : Tallied) (numbers : List ℕ) → AreInOrder t.states → AreInOrder (told t numbers).states
in_order_told t numbers h = elim (cases_Bool (counts t.test t.layout numbers)) [
  | inl e ↦ rw e (in_order_added (take t.layout.shown numbers) t.states h)
  | inr e ↦ rw e h
]

in_order_told_all : (t : Tallied) (results : List (List ℕ)) → AreInOrder t.states → AreInOrder (told_all t results).states
in_order_told_all t [] h = h
in_order_told_all t (numbers ∷ results) h = in_order_told_all (told t numbers) results (in_order_told t numbers h)

pub order_law : OrderLaw
order_law test layout results = in_order_told_all (nothing_told test layout) results tt

-- ---- results that meet the condition

positive_told : (t : Tallied) (numbers : List ℕ) → t.positive ≤ (told t numbers).positive
positive_told t numbers = elim (cases_Bool (counts t.test t.layout numbers)) [
  | inl e ↦ rw e (omega arith)
  | inr e ↦ rw e (omega arith)
]

positive_told_all : (t : Tallied) (results : List (List ℕ)) → t.positive ≤ (told_all t results).positive
positive_told_all t [] = omega arith
positive_told_all t (numbers ∷ results) =
    let here = positive_told t numbers in
    let rest = positive_told_all (told t numbers) results in
    omega (arith, here, rest)

meets_not : (t : Tallied) (numbers : List ℕ) → (told t numbers).positive ≡ 0 → counts t.test t.layout numbers ≡ true → is_positive t.test t.layout numbers ≡ false
meets_not t numbers none e = elim (cases_Bool (is_positive t.test t.layout numbers)) [
  | inl met ↦ let one = rw (e, met) at none in absurd (omega (arith, one))
  | inr not_met ↦ not_met
]

never_all : (test : Test) (layout : Layout) (t : Tallied) (results : List (List ℕ)) → t.test ≡ test → t.layout ≡ layout → (told_all t results).positive ≡ 0
    → NoneMeets test layout results
never_all test layout t [] is_test is_layout none = tt
never_all test layout t (numbers ∷ results) is_test is_layout none =
    let rest = positive_told_all (told t numbers) results in
    let here : counts test layout numbers ≡ true → is_positive test layout numbers ≡ false =
    subst (λ (x : Test). counts x layout numbers ≡ true → is_positive x layout numbers ≡ false) is_test
    (subst (λ (x : Layout). counts t.test x numbers ≡ true → is_positive t.test x numbers ≡ false) is_layout (meets_not t numbers (omega (arith, rest, none)))) in
    (here, never_all test layout (told t numbers) results (told_test t numbers ∙ is_test) (told_layout t numbers ∙ is_layout) none)

pub never_law : NeverLaw
never_law test layout results none = never_all test layout (nothing_told test layout) results refl refl none
