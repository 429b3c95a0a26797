-- Where a final state is counted.
use Rattle.std.proofs.Common.{◌≡◌, ℕ, suc, ◌+◌, ◌<◌, ◌≤◌, true, false, List, [], ◌∷◌, ◌++◌, length, get_or, set, drop, cond, refl, sym, ap, ◌∙◌, inl, inr, arith}
use Rattle.std.specs.List.{insert}
use Rattle.std.proofs.lemmas.Bool.{cases_Bool}
use Rattle.std.proofs.lemmas.List.{at_drop_all, at_drop_more}
use Rattle.loom_text.specs.Run.Counted.{Counted}
use Rattle.loom_text.specs.Run.States.{is_before, is_same, more_often, place_in, put}

-- all states are shown before it
pub put_behind : (numbers : List ℕ) (runs : ℕ) (states : List Counted) → length states ≤ place_in numbers states
    → put (record { numbers = numbers; runs = runs }) states ≡ states ++ record { numbers = numbers; runs = runs } ∷ []
put_behind numbers runs [] h = refl
put_behind numbers runs (s ∷ states) h = elim (cases_Bool (is_before s.numbers numbers)) [
  | inl e ↦ let more = rw e at h in rw e (ap (λ xs. s ∷ xs) (put_behind numbers runs states (omega (arith, more))))
  | inr e ↦ let more = rw e at h in absurd (omega (arith, more))
]

-- it was counted already
pub put_same : (numbers : List ℕ) (runs : ℕ) (states : List Counted) (d : Counted) → place_in numbers states < length states
    → is_same (get_or states (place_in numbers states) d).numbers numbers ≡ true
    → put (record { numbers = numbers; runs = runs }) states ≡ set states (place_in numbers states) (more_often runs (get_or states (place_in numbers states) d))
put_same numbers runs [] d h same = absurd (omega (arith, h))
put_same numbers runs (s ∷ states) d h same = elim (cases_Bool (is_before s.numbers numbers)) [
  | inl e ↦ let more = rw e at h in let there = rw e at same in rw e (ap (λ xs. s ∷ xs) (put_same numbers runs states d (omega (arith, more)) there))
  | inr e ↦ let here = rw e at same in rw (e, here) refl
]

-- another state is shown behind it
pub put_new : (numbers : List ℕ) (runs : ℕ) (states : List Counted) (d : Counted) → place_in numbers states < length states
    → is_same (get_or states (place_in numbers states) d).numbers numbers ≡ false
    → put (record { numbers = numbers; runs = runs }) states ≡ insert states (place_in numbers states) (record { numbers = numbers; runs = runs })
put_new numbers runs [] d h same = absurd (omega (arith, h))
put_new numbers runs (s ∷ states) d h same = elim (cases_Bool (is_before s.numbers numbers)) [
  | inl e ↦ let more = rw e at h in let there = rw e at same in rw e (ap (λ xs. s ∷ xs) (put_new numbers runs states d (omega (arith, more)) there))
  | inr e ↦ let here = rw e at same in rw (e, here) refl
]

-- one state further, and behind all
pub place_more : (numbers : List ℕ) (states : List Counted) (i : ℕ) (s : Counted) → i < length states → s ≡ get_or states i s
    → place_in numbers (drop i states) ≡ cond (is_before s.numbers numbers) (suc (place_in numbers (drop (i + 1) states))) 0
place_more numbers states i s h is =
    let at : place_in numbers (drop i states) ≡ place_in numbers (get_or states i s ∷ drop (i + 1) states) = at_drop_more (place_in numbers) states i s h in
    at ∙ ap (λ (x : Counted). place_in numbers (x ∷ drop (i + 1) states)) (sym is)

pub place_end : (numbers : List ℕ) (states : List Counted) (i : ℕ) → length states ≤ i → place_in numbers (drop i states) ≡ 0
place_end numbers states i h = at_drop_all (place_in numbers) states i h
