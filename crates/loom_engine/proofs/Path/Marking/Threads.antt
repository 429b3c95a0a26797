-- The marks for one thread after the other.
use Rattle.std.proofs.Common.{◌≡◌, ◌⊎◌, ℕ, Bool, true, false, List, [], map, take, Option, Some, None, refl, ap, ap₂, sym, ◌∙◌, subst}
use Rattle.std.specs.Prelude.{IsSomeAnd}
use Rattle.std.specs.Option.{is_some}
use Rattle.loom_engine.specs.Walk.Machine.{is_thread}
use Rattle.loom_objects.specs.declared.choice.Choice.{Choice}
use Rattle.loom_objects.specs.Tree.Question.{Made}
use Rattle.loom_engine.specs.Walk.Path.{Stored}
use Rattle.loom_engine.specs.Walk.UnderWay.{mark_with}
use Rattle.loom_engine.specs.Trees.Drive.{pass_of, passes_of}
use Rattle.loom_engine.specs.Trees.Marks.{schedules_down}
use Rattle.loom_engine.specs.Path.Tallies.{last_switch}
use Rattle.loom_engine.specs.Path.Route.{Route, stored, trail}
use Rattle.loom_engine.specs.Path.Marks.{marks_at, IsMarked, Adds, Marks, IsNearest, IsScheduleAt}
use Rattle.loom_engine.proofs.Nodes.Marking.Places.{switch_schedule}
use Rattle.loom_engine.proofs.Path.Marking.Marked.{same_passes, marks_none, marks_first, marks_both}

-- ---- a path with marks

pub same_position : (old new : Route) (marks : ℕ → Choice → Bool) → IsMarked old marks new → new.position ≡ old.position
same_position old new marks m = ap (λ (r : Route). r.position) m.1

pub same_search : (old new : Route) (marks : ℕ → Choice → Bool) → IsMarked old marks new → new.search ≡ old.search
same_search old new marks m = ap (λ (r : Route). r.search) m.1

-- the run has passed what it had
pub marked_passes : (old new : Route) (marks : ℕ → Choice → Bool) → IsMarked old marks new → passes_of (trail new) ≡ passes_of (trail old)
marked_passes old new marks m =
    ap₂ (λ (k : ℕ) (u : List Stored). map pass_of (take k u)) (same_position old new marks m) m.0 ∙ same_passes old.position marks 0 (stored old.nodes)

pub marked_twice : (old mid new : Route) (first second : ℕ → Choice → Bool) → IsMarked old first mid → new ≡ record mid { nodes = new.nodes } → new ≡ record old { nodes = new.nodes }
marked_twice old mid new first second m e = e ∙ ap (λ (r : Route). record r { nodes = new.nodes }) m.1

-- ---- one thread

module _ (old : Route) (place thread : ℕ) where
  abbrev passes : List (Made × Choice)
  passes = passes_of (trail old)

  pub none_nearest : IsNearest passes place None → Marks old place thread old
  none_nearest h = (marks_none old.search.bound passes place thread (stored old.nodes) h, refl)

  pub nearest_schedule : (k : ℕ) → IsNearest passes place (Some k) → IsScheduleAt passes k
  nearest_schedule k h = subst (λ x. IsSomeAnd x (λ (pass : Made × Choice). is_thread pass.0.default ≡ true)) (sym h.1) h.2

  -- the nearest alone
  pub first_alone : (k : ℕ) (new : Route) → IsNearest passes place (Some k) → (old.search.bound ≡ None) ⊎ (last_switch k passes ≡ None) → Adds old k thread new → Marks old place thread new
  first_alone k new h alone added =
      (added.0 ∙ marks_first old.search.bound passes place thread (k, h.0.0, h.0.1) (schedules_down 0 k passes []) (stored old.nodes) h.3 alone, added.1)

  -- and the one before it
  pub switch_passed : (k j : ℕ) (mid : Route) → Adds old k thread mid → last_switch k passes ≡ Some j → IsScheduleAt (passes_of (trail mid)) j
  switch_passed k j mid added e = subst (λ l. IsScheduleAt l j) (sym (marked_passes old mid (marks_at old.search.bound passes k thread) added)) (switch_schedule k passes j e)

  pub first_and_switch : (k j b : ℕ) (mid new : Route) → IsNearest passes place (Some k) → old.search.bound ≡ Some b → last_switch k passes ≡ Some j → Adds old k thread mid → Adds mid j thread new
      → Marks old place thread new
  first_and_switch k j b mid new h e f added more =
      let marks = marks_at old.search.bound passes k thread in
      let again : marks_at mid.search.bound (passes_of (trail mid)) j thread ≡ marks_at old.search.bound passes j thread =
      ap₂ (λ (s : Option ℕ) (l : List (Made × Choice)). marks_at s l j thread) (ap (λ s. s.bound) (same_search old mid marks added)) (marked_passes old mid marks added) in (
        more.0 ∙ ap₂ (λ (m : ℕ → Choice → Bool) (u : List Stored). mark_with m 0 u) again added.0
            ∙ marks_both old.search.bound passes place thread (k, h.0.0, h.0.1) (schedules_down 0 k passes []) b j (stored old.nodes) h.3 e f,
        more.1 ∙ ap (λ (r : Route). record r { nodes = new.nodes }) added.1,
      )

-- ---- whether there is a bound

some_is : (x : Option ℕ) → is_some x ≡ true → (b : ℕ) × (x ≡ Some b)
some_is None h = absurd (cc h)
some_is (Some b) h = (b, refl)

none_is : (x : Option ℕ) → is_some x ≡ false → x ≡ None
none_is None h = refl
none_is (Some b) h = absurd (cc h)

module _ (old mid held : Route) (view : held ≡ mid) (marked : mid ≡ record old { nodes = mid.nodes }) where
  held_bound : held.search.bound ≡ old.search.bound
  held_bound = ap (λ (r : Route). r.search.bound) (view ∙ marked)

  pub bounded : is_some held.search.bound ≡ true → (b : ℕ) × (old.search.bound ≡ Some b)
  bounded h = let z = some_is held.search.bound h in (z.0, sym held_bound ∙ z.1)

  pub unbounded : is_some held.search.bound ≡ false → old.search.bound ≡ None
  unbounded h = sym held_bound ∙ none_is held.search.bound h
