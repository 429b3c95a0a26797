-- Marks at one node, at two, and for one thread after the other.
use Rattle.std.proofs.Common.{◌≡◌, ◌≤◌, ◌+◌, ℕ, zero, suc, Bool, true, false, ◌&&◌, ◌||◌, eqb, List, [], ◌∷◌, map, take, Option, Some, None, refl, ap, ap₂, sym, ◌∙◌, arith, ◌⊎◌, inl, inr}
use Rattle.std.specs.Prelude.{slice_get, slice_set}
use mathlib.Core.Path.{fun_ext}
use Rattle.std.proofs.lemmas.Bool.{eqb-true}
use Rattle.loom_objects.specs.declared.choice.Choice.{Choice}
use Rattle.loom_objects.specs.Tree.Question.{Made}
use Rattle.loom_engine.specs.Walk.Path.{Status, Stored, mark_status}
use Rattle.loom_engine.specs.Walk.UnderWay.{mark_with}
use Rattle.loom_engine.specs.Trees.Drive.{pass_of}
use Rattle.loom_engine.specs.Trees.Marks.{Place, schedules_down, from_exploring, switching, added_from, added_at, adds_there, adds_any, is_in, is_off_bound}
use Rattle.loom_engine.specs.Trees.Meeting.{count, front_of}
use Rattle.loom_engine.proofs.Walk.UnderWay.{with_twice}
use Rattle.loom_engine.specs.Path.Marks.{marks_for, marks_at}
use Rattle.loom_engine.specs.Path.Tallies.{first_of}
use Rattle.loom_engine.proofs.Path.Marking.Adding.{unmarked}
use Rattle.loom_engine.proofs.Nodes.Marking.Places.{list_of, one_switch}

-- ---- marks at one node

abbrev pub with_marks : (Choice → Bool) → Stored → Stored
with_marks marks n = record n { status = λ o. mark_status (marks o) (n.status o) }

pub unmarked_node : (marks : Choice → Bool) (n : Stored) → ((o : Choice) → marks o ≡ false) → with_marks marks n ≡ n
unmarked_node marks n h = ap (λ (s : Choice → Status). record n { status = s }) (fun_ext (λ o. ap (λ b. mark_status b (n.status o)) (h o) ∙ sym (unmarked (n.status o))))

pub none_from : (marks : ℕ → Choice → Bool) (j : ℕ) (u : List Stored) → ((i : ℕ) (o : Choice) → j ≤ i → marks i o ≡ false) → mark_with marks j u ≡ u
none_from marks j [] h = refl
none_from marks j (x ∷ u) h = ap₂ (λ (n : Stored) (l : List Stored). n ∷ l) (unmarked_node (marks j) x (λ o. h j o (omega arith))) (none_from marks (suc j) u (λ i o l. h i o (omega arith)))

pub one_from : (marks : ℕ → Choice → Bool) (j k : ℕ) (u : List Stored) (n : Stored) → slice_get u k ≡ Some n → ((i : ℕ) (o : Choice) → (i ≡ j + k → ⊥) → marks i o ≡ false)
    → mark_with marks j u ≡ slice_set u k (with_marks (marks (j + k)) n)
one_from marks j k [] n e h = absurd (cc e)
one_from marks j zero (x ∷ u) n e h =
    let same : x ≡ n = cc e in
    let here : j ≡ j + 0 = omega arith in
    ap₂ (λ (y : Stored) (l : List Stored). y ∷ l) (ap (with_marks (marks j)) same ∙ ap (λ i. with_marks (marks i) n) here) (none_from marks (suc j) u (λ i o l. h i o (λ g. omega arith)))
one_from marks j (suc k) (x ∷ u) n e h =
    let here : suc j + k ≡ j + suc k = omega arith in
    ap₂ (λ (y : Stored) (l : List Stored). y ∷ l) (unmarked_node (marks j) x (λ o. h j o (λ g. omega arith)))
    (one_from marks (suc j) k u n e (λ i o f. h i o (λ g. f (omega arith))) ∙ ap (λ i. slice_set u k (with_marks (marks i) n)) here)

-- marks at one node only
pub one_marked : (marks : ℕ → Choice → Bool) (k : ℕ) (u : List Stored) (n : Stored) → slice_get u k ≡ Some n → ((i : ℕ) (o : Choice) → (i ≡ k → ⊥) → marks i o ≡ false)
    → mark_with marks 0 u ≡ slice_set u k (with_marks (marks k) n)
one_marked marks k u n e h =
    let here : 0 + k ≡ k = omega arith in
    one_from marks 0 k u n e (λ i o f. h i o (λ g. f (omega arith))) ∙ ap (λ i. slice_set u k (with_marks (marks i) n)) here

-- marks change neither what was made nor what was chosen
pub same_passes : (p : ℕ) (marks : ℕ → Choice → Bool) (j : ℕ) (u : List Stored) → map pass_of (take p (mark_with marks j u)) ≡ map pass_of (take p u)
same_passes zero marks j u = refl
same_passes (suc p) marks j [] = refl
same_passes (suc p) marks j (x ∷ u) = ap (λ l. pass_of x ∷ l) (same_passes p marks (suc j) u)

-- ---- one thread

and_none : (a : Bool) → (a && false) ≡ false
and_none true = refl
and_none false = refl

module _ (bound : Option ℕ) (passes : List (Made × Choice)) where
  abbrev off : ℕ → Bool
  off k = is_off_bound bound (count (front_of k passes))

  -- another node has no marks
  pub elsewhere : (place thread i : ℕ) (o : Choice) → (i ≡ place → ⊥) → marks_at bound passes place thread i o ≡ false
  elsewhere place thread i o f =
      ap (λ b. off i && (b && adds_there (slice_get passes i) thread o)) (go (eqb i place) refl) ∙ and_none (off i)
    where
      go : (b : Bool) → eqb i place ≡ b → eqb i place ≡ false
      go true e = absurd (f (eqb-true i place e))
      go false e = e

  module _ (place thread : ℕ) where
    abbrev there : ℕ → Choice → Bool
    there i o = adds_there (slice_get passes i) thread o

    abbrev at_places : List ℕ → ℕ → Choice → Bool
    at_places places i o = off i && ((is_in i places && there i o) || false)

    nowhere : (i : ℕ) (o : Choice) → at_places [] i o ≡ false
    nowhere i o = and_none (off i)

    once : (k i : ℕ) (o : Choice) → at_places (k ∷ []) i o ≡ marks_at bound passes k thread i o
    once k i o = go (off i) (eqb i k) (there i o)
      where
        go : (a b c : Bool) → (a && (((b || false) && c) || false)) ≡ (a && (b && c))
        go true true true = refl
        go true true false = refl
        go true false c = refl
        go false b c = refl

    twice : (k j i : ℕ) (o : Choice) → at_places (k ∷ j ∷ []) i o ≡ (marks_at bound passes j thread i o || marks_at bound passes k thread i o)
    twice k j i o = go (off i) (eqb i k) (eqb i j) (there i o)
      where
        go : (a b c d : Bool) → (a && (((b || (c || false)) && d) || false)) ≡ ((a && (c && d)) || (a && (b && d)))
        go true true true true = refl
        go true true true false = refl
        go true true false true = refl
        go true true false false = refl
        go true false true true = refl
        go true false true false = refl
        go true false false d = refl
        go false b c d = refl

    abbrev nearest_places : List Place
    nearest_places = from_exploring (schedules_down 0 (suc place) passes [])

    these : (l : List Place) → nearest_places ≡ l → (u : List Stored) → mark_with (marks_for bound passes ((place, thread) ∷ [])) 0 u ≡ mark_with (at_places (added_from bound l)) 0 u
    these l h u = ap (λ p. mark_with (at_places (added_from bound p)) 0 u) h

    -- where no schedule explores nothing is marked
    pub marks_none : (u : List Stored) → nearest_places ≡ [] → u ≡ mark_with (marks_for bound passes ((place, thread) ∷ [])) 0 u
    marks_none u h = sym (these [] h u ∙ go bound)
      where
        go : (b : Option ℕ) → mark_with (at_places (added_from b [])) 0 u ≡ u
        go None = none_from (at_places []) 0 u (λ i o l. nowhere i o)
        go (Some b) = none_from (at_places []) 0 u (λ i o l. nowhere i o)

    with_one : (k : ℕ) (l : List ℕ) (u : List Stored) → l ≡ k ∷ [] → mark_with (at_places l) 0 u ≡ mark_with (marks_at bound passes k thread) 0 u
    with_one k l u e = ap (λ p. mark_with (at_places p) 0 u) e ∙ ap (λ m. mark_with m 0 u) (fun_ext (λ i. fun_ext (λ o. once k i o)))

    -- the nearest alone
    pub marks_first : (c : Place) (rest : List Place) (u : List Stored) → nearest_places ≡ c ∷ rest → (bound ≡ None) ⊎ (first_of (switching rest) ≡ None)
        → mark_with (marks_at bound passes c.0 thread) 0 u ≡ mark_with (marks_for bound passes ((place, thread) ∷ [])) 0 u
    marks_first c rest u h (inl e) = sym (these (c ∷ rest) h u ∙ with_one c.0 (added_from bound (c ∷ rest)) u (ap (λ b. added_from b (c ∷ rest)) e))
    marks_first c rest u h (inr e) = sym (these (c ∷ rest) h u ∙ with_one c.0 (added_from bound (c ∷ rest)) u (go bound))
      where
        go : (b : Option ℕ) → added_from b (c ∷ rest) ≡ c.0 ∷ []
        go None = refl
        go (Some b) = ap (λ l. c.0 ∷ l) (one_switch rest ∙ ap list_of e)

    -- and another one before it
    pub marks_both : (c : Place) (rest : List Place) (b j : ℕ) (u : List Stored) → nearest_places ≡ c ∷ rest → bound ≡ Some b → first_of (switching rest) ≡ Some j
        → mark_with (marks_at bound passes j thread) 0 (mark_with (marks_at bound passes c.0 thread) 0 u) ≡ mark_with (marks_for bound passes ((place, thread) ∷ [])) 0 u
    marks_both c rest b j u h e f =
        let both : added_from bound (c ∷ rest) ≡ c.0 ∷ j ∷ [] = ap (λ x. added_from x (c ∷ rest)) e ∙ ap (λ l. c.0 ∷ l) (one_switch rest ∙ ap list_of f) in
        with_twice (marks_at bound passes j thread) (marks_at bound passes c.0 thread) 0 u
        ∙ sym (these (c ∷ rest) h u ∙ ap (λ p. mark_with (at_places p) 0 u) both ∙ ap (λ m. mark_with m 0 u) (fun_ext (λ i. fun_ext (λ o. twice c.0 j i o))))

-- ---- several threads

module _ (bound : Option ℕ) (passes : List (Made × Choice)) where
  -- one pair, and then the others
  pub marks_more : (pair : ℕ × ℕ) (pairs : List (ℕ × ℕ)) (u : List Stored)
      → mark_with (marks_for bound passes pairs) 0 (mark_with (marks_for bound passes (pair ∷ [])) 0 u) ≡ mark_with (marks_for bound passes (pair ∷ pairs)) 0 u
  marks_more pair pairs u =
      with_twice (marks_for bound passes pairs) (marks_for bound passes (pair ∷ [])) 0 u
      ∙ ap (λ m. mark_with m 0 u) (fun_ext (λ i. fun_ext (λ o.
      go (is_off_bound bound (count (front_of i passes))) (is_in i (added_at bound passes pair.0) && adds_there (slice_get passes i) pair.1 o) (adds_any bound passes i o pairs))))
    where
      go : (a b c : Bool) → ((a && c) || (a && (b || false))) ≡ (a && (b || c))
      go true true true = refl
      go true true false = refl
      go true false true = refl
      go true false false = refl
      go false b c = refl

  pub marks_no_more : (u : List Stored) → mark_with (marks_for bound passes []) 0 u ≡ u
  marks_no_more u = none_from (marks_for bound passes []) 0 u (λ i o l. and_none (is_off_bound bound (count (front_of i passes))))
