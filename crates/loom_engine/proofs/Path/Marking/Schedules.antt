-- The marks of a schedule, for one thread after the other.
use Rattle.std.proofs.Common.{◌≡◌, ◌≤◌, ◌<◌, ◌+◌, ℕ, zero, suc, Bool, true, List, [], ◌∷◌, length, drop, get_or, Option, Some, None, refl, ap, ap₂, sym, ◌∙◌, subst, arith}
use Rattle.loom_objects.specs.declared.choice.Choice.{Choice}
use Rattle.loom_objects.specs.declared.rt.schedule.Offers.{Offers}
use Rattle.loom_objects.specs.Tree.Question.{Made}
use Rattle.loom_objects.specs.Tree.Asked.{pairs, pairs_from, which_thread}
use Rattle.loom_engine.specs.Walk.Path.{Stored}
use Rattle.loom_engine.specs.Walk.UnderWay.{mark_with}
use Rattle.loom_engine.specs.Trees.Drive.{marked, passes_of, backtrack}
use Rattle.loom_engine.specs.Trees.Marks.{marking}
use Rattle.loom_engine.specs.Path.Route.{Route, Backtracks, stored, trail}
use Rattle.loom_engine.specs.Path.Marks.{marks_for, Marks}
use Rattle.loom_engine.proofs.Path.Marking.Marked.{marks_more, marks_no_more}
use Rattle.loom_engine.proofs.Path.Marking.Threads.{marked_passes}

next_place : (places : List (Option ℕ)) (t : ℕ) (x d : Option ℕ) → t < length places → get_or places t d ≡ x → drop t places ≡ x ∷ drop (suc t) places
next_place [] t x d h e = absurd (omega arith)
next_place (y ∷ places) zero x d h e = ap (λ z. z ∷ places) e
next_place (y ∷ places) (suc t) x d h e = next_place places t x d (omega arith) e

past_places : (places : List (Option ℕ)) (t : ℕ) → length places ≤ t → drop t places ≡ []
past_places [] zero h = refl
past_places [] (suc t) h = refl
past_places (y ∷ places) zero h = absurd (omega arith)
past_places (y ∷ places) (suc t) h = past_places places t (omega arith)

module _ (old : Route) (places : List (Option ℕ)) where
  abbrev passes : List (Made × Choice)
  passes = passes_of (trail old)

  abbrev with_pairs : List (ℕ × ℕ) → List Stored → List Stored
  with_pairs pairs u = mark_with (marks_for old.search.bound passes pairs) 0 u

  -- the marks of the threads before number t were made: with those of the others they are the marks of all
  pub record Left (t : ℕ) (now : Route) : Type 0 where
    pub same : now ≡ record old { nodes = now.nodes }
    pub passed : passes_of (trail now) ≡ passes
    pub all : with_pairs (pairs_from t (drop t places)) (stored now.nodes) ≡ with_pairs (pairs places) (stored old.nodes)

  pub left_start : Left 0 old
  left_start = record { same = refl; passed = refl; all = refl }

  pub left_none : (t : ℕ) (now : Route) (d : Option ℕ) → t < length places → get_or places t d ≡ None → Left t now → Left (t + 1) now
  left_none t now d h e w =
      let next : t + 1 ≡ suc t = omega arith in
      subst (λ k. Left k now) (sym next) (record {
        same = w.same;
        passed = w.passed;
        all = sym (ap (λ l. with_pairs (pairs_from t l) (stored now.nodes)) (next_place places t None d h e)) ∙ w.all;
      })

  pub left_some : (t place : ℕ) (now new : Route) (d : Option ℕ) → t < length places → get_or places t d ≡ Some place → Left t now → Marks now place t new → Left (t + 1) new
  left_some t place now new d h e w m =
      let next : t + 1 ≡ suc t = omega arith in
      let here = marks_for now.search.bound (passes_of (trail now)) ((place, t) ∷ []) in
      let before : here ≡ marks_for old.search.bound passes ((place, t) ∷ []) =
      ap₂ (λ (b : Option ℕ) (l : List (Made × Choice)). marks_for b l ((place, t) ∷ [])) (ap (λ (r : Route). r.search.bound) w.same) w.passed in
      let rest = pairs_from (suc t) (drop (suc t) places) in
      subst (λ k. Left k new) (sym next) (record {
        same = m.1 ∙ ap (λ (r : Route). record r { nodes = new.nodes }) w.same;
        passed = marked_passes now new here m ∙ w.passed;
        all = ap (with_pairs rest) (m.0 ∙ ap (λ f. mark_with f 0 (stored now.nodes)) before)
            ∙ marks_more old.search.bound passes (place, t) rest (stored now.nodes)
            ∙ sym (ap (λ l. with_pairs (pairs_from t l) (stored now.nodes)) (next_place places t (Some place) d h e)) ∙ w.all;
      })

  -- the marks of all were made
  pub left_over : (t : ℕ) (now : Route) → old.search.reduce ≡ true → length places ≤ t → Left t now → Backtracks old places now
  left_over t now reduced h w = (
    λ exploring offers. whole exploring offers,
    ((ap (λ (r : Route). r.search) w.same, ap (λ (r : Route). r.explores) w.same, ap (λ (r : Route). r.given) w.same), ap (λ (r : Route). r.exploring) w.same),
  )
    where
      none : stored now.nodes ≡ with_pairs (pairs places) (stored old.nodes)
      none = sym (ap (λ l. with_pairs (pairs_from t l) (stored now.nodes)) (past_places places t h) ∙ marks_no_more old.search.bound passes (stored now.nodes)) ∙ w.all

      whole : (exploring : Bool) (offers : Offers) → trail now ≡ backtrack old.search (marking old.search.bound) (trail old) (which_thread exploring offers places)
      whole exploring offers =
          ap (λ (r : Route). record (trail r) { nodes = stored now.nodes }) w.same ∙ ap (λ u. record (trail old) { nodes = u }) none
          ∙ sym (ap (λ b. record (trail old) { nodes = marked b (marking old.search.bound passes (which_thread exploring offers places)) (stored old.nodes) }) reduced)
