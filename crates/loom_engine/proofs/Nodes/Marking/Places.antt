-- The schedules below a place, the last first.
use Rattle.std.proofs.Common.{◌≡◌, ◌≤◌, ◌+◌, ℕ, zero, suc, Bool, true, false, ◌&&◌, cond, List, [], ◌∷◌, length, map, take, Option, Some, None, refl, ap, ap₂, sym, ◌∙◌, subst, arith}
use Rattle.std.specs.Prelude.{slice_get, min, IsSomeAnd}
use Rattle.loom_objects.specs.declared.choice.Choice.{Choice}
use Rattle.loom_objects.specs.Tree.Question.{Made}
use Rattle.loom_engine.specs.Walk.Choices.{same, pick}
use Rattle.loom_engine.specs.Walk.Machine.{is_thread}
use Rattle.loom_engine.specs.Walk.Path.{Stored}
use Rattle.loom_engine.specs.Trees.Drive.{pass_of}
use Rattle.loom_engine.specs.Trees.Marks.{Place, schedules_down, from_exploring, switching}
use Rattle.loom_engine.specs.Trees.Meeting.{front_of}
use Rattle.loom_engine.specs.Path.Tallies.{first_of}
use Rattle.loom_engine.specs.Path.Nearest.{IsScheduleAt, IsNearest}

-- ---- one node more

abbrev in_front : Bool → ℕ → Made × Choice → List Place → List Place
in_front b k pass places = cond b ((k, pass.0, pass.1) ∷ places) places

down_from : (i k : ℕ) (passes : List (Made × Choice)) (found : List Place) (pass : Made × Choice) → slice_get passes k ≡ Some pass
    → schedules_down i (suc k) passes found ≡ in_front (is_thread pass.0.default) (i + k) pass (schedules_down i k passes found)
down_from i k [] found pass h = absurd (cc h)
down_from i zero (p ∷ passes) found pass h =
    let e : p ≡ pass = cc h in
    let g : i ≡ i + 0 = omega arith in
    ap₂ (λ (q : Made × Choice) (j : ℕ). in_front (is_thread q.0.default) j q found) e g
down_from i (suc k) (p ∷ passes) found pass h =
    let g : suc i + k ≡ i + suc k = omega arith in
    let rest : List Place = in_front (is_thread p.0.default) i p found in
    down_from (suc i) k passes rest pass h ∙ ap (λ (j : ℕ). in_front (is_thread pass.0.default) j pass (schedules_down (suc i) k passes rest)) g

-- node k comes in front of those before it, if it is a schedule
pub down_more : (k : ℕ) (passes : List (Made × Choice)) (pass : Made × Choice) → slice_get passes k ≡ Some pass
    → schedules_down 0 (suc k) passes [] ≡ cond (is_thread pass.0.default) ((k, pass.0, pass.1) ∷ schedules_down 0 k passes []) (schedules_down 0 k passes [])
down_more k passes pass h =
    let g : 0 + k ≡ k = omega arith in
    down_from 0 k passes [] pass h ∙ ap (λ (j : ℕ). in_front (is_thread pass.0.default) j pass (schedules_down 0 k passes [])) g

-- past the last node there is none
down_past : (i k : ℕ) (passes : List (Made × Choice)) (found : List Place) → length passes ≤ k → schedules_down i k passes found ≡ schedules_down i (length passes) passes found
down_past i zero [] found h = refl
down_past i (suc k) [] found h = refl
down_past i zero (p ∷ passes) found h = absurd (omega arith)
down_past i (suc k) (p ∷ passes) found h = down_past (suc i) k passes (in_front (is_thread p.0.default) i p found) (omega arith)

pub down_within : (k left : ℕ) (passes : List (Made × Choice)) → left ≡ min (length passes) k → schedules_down 0 k passes [] ≡ schedules_down 0 left passes []
down_within k left passes e = go (nat_order k (length passes))
  where
    nat_order : (a b : ℕ) → Dec (a ≤ b)
    nat_order zero b = yes (omega arith)
    nat_order (suc a) zero = no (λ h. omega arith)
    nat_order (suc a) (suc b) = elim (nat_order a b) [ yes h ↦ yes (omega arith) | no h ↦ no (λ g. h (omega arith)) ]

    go : Dec (k ≤ length passes) → schedules_down 0 k passes [] ≡ schedules_down 0 left passes []
    go (yes h) = let g : k ≡ left = omega arith in ap (λ j. schedules_down 0 j passes []) g
    go (no h) =
        let l : length passes ≤ k = omega arith in
        let g : length passes ≡ left = omega arith in
        down_past 0 k passes [] l ∙ ap (λ j. schedules_down 0 j passes []) g

-- ---- the nearest that explores

pub at_schedule : (place k : ℕ) (passes : List (Made × Choice)) (pass : Made × Choice) → slice_get passes k ≡ Some pass → is_thread pass.0.default ≡ true → pass.0.exploring ≡ true
    → from_exploring (schedules_down 0 (suc place) passes []) ≡ from_exploring (schedules_down 0 (suc k) passes []) → IsNearest passes place (Some k)
at_schedule place k passes pass h t x e = (
  pass,
  h,
  t,
  e ∙ ap from_exploring (down_more k passes pass h ∙ ap (λ b. in_front b k pass (schedules_down 0 k passes [])) t)
      ∙ ap (λ b. cond b ((k, pass.0, pass.1) ∷ schedules_down 0 k passes []) (from_exploring (schedules_down 0 k passes []))) x,
)

pub past_fixed : (place k : ℕ) (passes : List (Made × Choice)) (pass : Made × Choice) → slice_get passes k ≡ Some pass → pass.0.exploring ≡ false
    → from_exploring (schedules_down 0 (suc place) passes []) ≡ from_exploring (schedules_down 0 (suc k) passes [])
    → from_exploring (schedules_down 0 (suc place) passes []) ≡ from_exploring (schedules_down 0 k passes [])
past_fixed place k passes pass h x e = e ∙ ap from_exploring (down_more k passes pass h) ∙ go (is_thread pass.0.default)
  where
    go : (b : Bool) → from_exploring (in_front b k pass (schedules_down 0 k passes [])) ≡ from_exploring (schedules_down 0 k passes [])
    go true = ap (λ b. cond b ((k, pass.0, pass.1) ∷ schedules_down 0 k passes []) (from_exploring (schedules_down 0 k passes []))) x
    go false = refl

pub past_other : (place k : ℕ) (passes : List (Made × Choice)) (pass : Made × Choice) → slice_get passes k ≡ Some pass → is_thread pass.0.default ≡ false
    → from_exploring (schedules_down 0 (suc place) passes []) ≡ from_exploring (schedules_down 0 (suc k) passes [])
    → from_exploring (schedules_down 0 (suc place) passes []) ≡ from_exploring (schedules_down 0 k passes [])
past_other place k passes pass h t e =
    e ∙ ap from_exploring (down_more k passes pass h ∙ ap (λ b. in_front b k pass (schedules_down 0 k passes [])) t)

-- ---- the switch

AreSchedules : List (Made × Choice) → List Place → Type 0
AreSchedules passes [] = Unit {0}
AreSchedules passes (c ∷ places) = ((slice_get passes c.0 ≡ Some (c.1, c.2)) × (is_thread c.1.default ≡ true)) × AreSchedules passes places

are_schedules : (k : ℕ) (passes : List (Made × Choice)) → AreSchedules passes (schedules_down 0 k passes [])
unfolding AreSchedules
are_schedules zero passes = tt
are_schedules (suc k) passes = go (slice_get passes k) refl (are_schedules k passes)
  where
    go : (x : Option (Made × Choice)) → slice_get passes k ≡ x → AreSchedules passes (schedules_down 0 k passes []) → AreSchedules passes (schedules_down 0 (suc k) passes [])
    go None e ih = subst (AreSchedules passes) (all k passes e ∙ sym (past (suc k) (none_past passes k e))) ih
      where
        none_past : (l : List (Made × Choice)) (j : ℕ) → slice_get l j ≡ None → length l ≤ j
        none_past [] j h = omega arith
        none_past (x ∷ l) zero h = absurd (cc h)
        none_past (x ∷ l) (suc j) h = let g = none_past l j h in omega arith

        past : (j : ℕ) → length passes ≤ k → schedules_down 0 (suc k) passes [] ≡ schedules_down 0 (length passes) passes []
        past j h = let g : length passes ≤ suc k = omega arith in down_past 0 (suc k) passes [] g

        all : (j : ℕ) (l : List (Made × Choice)) → slice_get passes k ≡ None → schedules_down 0 k passes [] ≡ schedules_down 0 (length passes) passes []
        all j l h = down_past 0 k passes [] (none_past passes k h)
    go (Some pass) e ih = subst (AreSchedules passes) (sym (down_more k passes pass e)) (by (is_thread pass.0.default) refl)
      where
        by : (b : Bool) → is_thread pass.0.default ≡ b → AreSchedules passes (in_front b k pass (schedules_down 0 k passes []))
        by true t = ((e, t), ih)
        by false t = ih

abbrev pub list_of : Option ℕ → List ℕ
list_of None = []
list_of (Some k) = k ∷ []

-- there is one at most
pub one_switch : (places : List Place) → switching places ≡ list_of (first_of (switching places))
one_switch [] = refl
one_switch (c ∷ []) = go c.1.exploring
  where
    go : (b : Bool) → cond b (c.0 ∷ []) [] ≡ list_of (first_of (cond b (c.0 ∷ []) []))
    go true = refl
    go false = refl
one_switch (c ∷ p ∷ places) = go (c.1.exploring && pick (same c.2 p.2) false true) (one_switch (p ∷ places))
  where
    go : (b : Bool) → switching (p ∷ places) ≡ list_of (first_of (switching (p ∷ places)))
        → cond b (c.0 ∷ []) (switching (p ∷ places)) ≡ list_of (first_of (cond b (c.0 ∷ []) (switching (p ∷ places))))
    go true ih = refl
    go false ih = ih

here_is : (passes : List (Made × Choice)) (c : Place) (places : List Place) (j : ℕ) → AreSchedules passes (c ∷ places) → c.0 ≡ j → IsScheduleAt passes j
unfolding AreSchedules
here_is passes c places j w e = subst (IsScheduleAt passes) e (subst (λ x. IsSomeAnd x (λ pass. is_thread pass.0.default ≡ true)) (sym w.0.0) w.0.1)

switch_is : (passes : List (Made × Choice)) (places : List Place) (j : ℕ) → AreSchedules passes places → first_of (switching places) ≡ Some j → IsScheduleAt passes j
unfolding AreSchedules
switch_is passes [] j w h = absurd (cc h)
switch_is passes (c ∷ []) j w h = go c.1.exploring h
  where
    go : (b : Bool) → first_of (cond b (c.0 ∷ []) []) ≡ Some j → IsScheduleAt passes j
    go true g = here_is passes c [] j w (cc g)
    go false g = absurd (cc g)
switch_is passes (c ∷ p ∷ places) j w h = go (c.1.exploring && pick (same c.2 p.2) false true) h (λ g. switch_is passes (p ∷ places) j w.1 g)
  where
    go : (b : Bool) → first_of (cond b (c.0 ∷ []) (switching (p ∷ places))) ≡ Some j → (first_of (switching (p ∷ places)) ≡ Some j → IsScheduleAt passes j) → IsScheduleAt passes j
    go true g ih = here_is passes c (p ∷ places) j w (cc g)
    go false g ih = ih g

-- the switch before a place is a schedule
pub switch_schedule : (k : ℕ) (passes : List (Made × Choice)) (j : ℕ) → first_of (switching (schedules_down 0 k passes [])) ≡ Some j → IsScheduleAt passes j
switch_schedule k passes j h = switch_is passes (schedules_down 0 k passes []) j (are_schedules k passes) h

-- ---- the first of those that were passed

pub down_front : (i k p : ℕ) (u : List Stored) (found : List Place) → k ≤ p → schedules_down i k (map pass_of (take k u)) found ≡ schedules_down i k (map pass_of (take p u)) found
down_front i zero p u found h = refl
down_front i (suc k) zero u found h = absurd (omega arith)
down_front i (suc k) (suc p) [] found h = refl
down_front i (suc k) (suc p) (x ∷ u) found h = down_front (suc i) k p u (in_front (is_thread x.made.default) i (pass_of x) found) (omega arith)

pub front_passes : (k p : ℕ) (u : List Stored) → k ≤ p → map pass_of (take k u) ≡ front_of k (map pass_of (take p u))
front_passes zero p u h = refl
front_passes (suc k) zero u h = absurd (omega arith)
front_passes (suc k) (suc p) [] h = refl
front_passes (suc k) (suc p) (x ∷ u) h = ap (λ l. pass_of x ∷ l) (front_passes k p u (omega arith))
