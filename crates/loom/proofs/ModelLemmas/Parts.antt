-- A part under way: runs from its path, with those that its visitor was given.
use Rattle.std.proofs.Common.{◌≡◌, ◌+◌, ℕ, zero, suc, inl, inr, List, [], ◌∷◌, length, take, refl, ap, ap₂, sym, ◌∙◌, subst, arith}
use Rattle.std.specs.Prelude.{Bool, true, false, Option, Some, None, Ok, Err, Result, Vec}
use Rattle.std.specs.declared.alloc.Global.{Global}
use Rattle.loom_views.specs.declared.rt.failure.FailureKind.{FailureKind}
use Rattle.loom_objects.specs.declared.choice.Choice.{Choice}
use Rattle.loom_objects.specs.declared.failure.Failure.{Failure}
use Rattle.loom_objects.specs.Tree.Tree.{Tree}
use Rattle.loom_engine.specs.Walk.Machine.{Machine}
use Rattle.loom_engine.specs.Walk.Path.{Stored, choices, IsResting, after_run}
use Rattle.loom_engine.specs.Walk.Walks.{run_of}
use Rattle.loom_engine.specs.Trees.Drive.{drive, at_start}
use Rattle.loom_engine.specs.Trees.Marks.{marking}
use Rattle.loom_engine.specs.Trees.Meeting.{Settings}
use Rattle.loom_engine.specs.Trees.Outcomes.{outcome, choices_made}
use Rattle.loom_engine.specs.Trees.Machines.{IsMarking}
use Rattle.loom_engine.specs.Runs.Sound.{IsRunTree}
use Rattle.loom_engine.specs.declared.rt.path.node.Node.{Node}
use Rattle.loom_engine.specs.declared.rt.parts.Part.{Part}
use Rattle.loom_engine.specs.Path.Nodes.{seen}
use Rattle.loom_engine.specs.Path.Route.{Route, at_rest, stored, trail, chosen, drives}
use Rattle.loom_engine.specs.Parts.Floors.{step_above}
use Rattle.loom_engine.specs.Parts.Slices.{Slice, first, further, Ended, at_once, after}
use Rattle.loom_engine.specs.Parts.Keeping.{Leaves, part_of}
use Rattle.loom_engine.proofs.Parts.Driven.{Ran, ran, rests_on}
use Rattle.loom_engine.proofs.Trees.Marks.{marking_law}
use Rattle.loom.specs.declared.model.builder.Builder.{Builder}
use Rattle.loom.specs.declared.model.parts.Worked.TheVariants.{Made, Failed}
use Rattle.loom.specs.Model.Fresh.{machine}
use Rattle.loom.specs.Model.Loop.{Comes}
use Rattle.loom.specs.Model.Parts.{HasEndedAbove, HasLed, HasGiven, HasMade, HasFailed, Works}
use Rattle.loom.specs.Model.Settings.{explores, search_of}

module _ {D : Type 0} (b : Builder) (tree : Tree D) (sound : IsRunTree tree) (part : Part) {V : Type 0} (takes : V → List Choice → D → V → Type 0) (old : V) where
  abbrev s : Settings
  s = search_of b

  abbrev m : Machine
  m = machine (search_of b) tree

  abbrev floor : ℕ
  floor = length part.base.items

  fair : IsMarking (marking (search_of b).bound)
  fair = (marking_law (search_of b).bound).0

  -- the runs so far
  pub record SoFar (path : List Node) (visitor : V) (count : ℕ) : Type 0 where
    pub made : HasGiven takes old visitor b tree part count
    pub led : HasLed (machine (search_of b) tree) (length part.base.items) (stored part.path.nodes) (choices_made made.runs) (stored path)
    pub here : IsResting (machine (search_of b) tree) (stored path)

  pub record IsWorking (path : Route) (visitor : V) (count : ℕ) : Type 0 where
    pub rests : path ≡ at_rest (search_of b) (explores b) path.nodes
    pub so_far : IsResting (machine (search_of b) tree) (stored part.path.nodes) → SoFar path.nodes visitor count

  pub working_start : (path : Route) → path ≡ at_rest (search_of b) (explores b) part.path.nodes → IsWorking path old 0
  working_start path e =
      let same : path.nodes ≡ part.path.nodes = ap (λ (r : Route). r.nodes) e in
      record {
        rests = e ∙ ap (at_rest (search_of b) (explores b)) (sym same);
        so_far = λ r. record {
          made = record { runs = []; given = refl; counted = refl; are_runs = tt };
          led = inl (refl, ap stored same);
          here = subst (λ (nodes : List Node). IsResting m (stored nodes)) (sym same) r;
        };
      }

  -- one run more
  module _ (path : Route) (visitor : V) (count : ℕ) (z : IsWorking path visitor count) where
    driven : (later : Route) (comes : Result D FailureKind) → drives tree path ≡ (comes, trail later) → drive s (marking s.bound) tree (at_start (stored path.nodes)) ≡ (comes, trail later)
    driven later comes e = sym (ap (λ (p : Route). drives tree p) z.rests) ∙ e

    module _ (of_body : IsResting (machine (search_of b) tree) (stored part.path.nodes)) where
      sofar : SoFar path.nodes visitor count
      sofar = z.so_far of_body

      run_here : (later : Route) (comes : Result D FailureKind) → drives tree path ≡ (comes, trail later) → Ran s (marking s.bound) tree floor sound.sound fair (stored path.nodes) comes (trail later)
      run_here later comes e = ran s (marking s.bound) tree floor sound.sound fair (stored path.nodes) comes (trail later) sofar.here (driven later comes e)

      more : (on : Bool) (later : Route) (new : V) (h : HasEndedAbove (Comes tree b.location) takes floor path visitor on later new) → HasGiven takes old new b tree part (count + 1)
      more on later new h =
          let r = run_here h.after (Ok h.value) h.came in
          let all : chosen h.after ≡ choices (stored h.after.nodes) = ap choices r.all_passed in
          let g = sofar.made in
          record {
            runs = (choices (stored h.after.nodes), h.value) ∷ g.runs;
            given = (visitor, g.given, subst (λ l. takes visitor l h.value new) all h.took);
            counted = omega (arith, g.counted);
            are_runs = (r.comes, g.are_runs);
          }

      step_is : (later : Route) (comes : Result D FailureKind) (e : drives tree path ≡ (comes, trail later)) (o : Option (List Stored)) → step_above floor (stored later.nodes) ≡ o → step_above floor (after_run m (stored path.nodes)) ≡ o
      step_is later comes e o h = ap (step_above floor) (sym (run_here later comes e).leaves) ∙ h

      slices : (q : List Stored) → step_above floor (after_run m (stored path.nodes)) ≡ Some q → Slice m floor (stored part.path.nodes) (run_of m (stored path.nodes) ∷ choices_made sofar.made.runs) q
      slices q e = elim sofar.led [
        | inl i ↦
            subst (λ (list : List (List Choice)). Slice m floor (stored part.path.nodes) (run_of m (stored path.nodes) ∷ list) q) (sym i.0)
            (subst (λ (p : List Stored). Slice m floor (stored part.path.nodes) (run_of m p ∷ []) q) (sym i.1)
            (first q (subst (λ (p : List Stored). step_above floor (after_run m p) ≡ Some q) i.1 e)))
        | inr i ↦ further (choices_made sofar.made.runs) (stored path.nodes) q i e
      ]

      ends : step_above floor (after_run m (stored path.nodes)) ≡ None
          → Ended m floor (stored part.path.nodes) (run_of m (stored path.nodes) ∷ choices_made sofar.made.runs) (take floor (after_run m (stored path.nodes)))
      ends e = elim sofar.led [
        | inl i ↦
            subst (λ (list : List (List Choice)). Ended m floor (stored part.path.nodes) (run_of m (stored path.nodes) ∷ list) (take floor (after_run m (stored path.nodes)))) (sym i.0)
            (subst (λ (p : List Stored). Ended m floor (stored part.path.nodes) (run_of m p ∷ []) (take floor (after_run m p))) (sym i.1)
            (at_once (subst (λ (p : List Stored). step_above floor (after_run m p) ≡ None) i.1 e)))
        | inr i ↦ after (choices_made sofar.made.runs) (stored path.nodes) i e
      ]

      goes_on : (later : Route) (new : V) → HasEndedAbove (Comes tree b.location) takes floor path visitor true later new → SoFar later.nodes new (count + 1)
      unfolding more
      goes_on later new h =
          let r = run_here h.after (Ok h.value) h.came in
          let step = step_is h.after (Ok h.value) h.came (Some (stored later.nodes)) h.steps in
          record {
            made = more true later new h;
            led = inr (subst (λ (x : List Choice). Slice m floor (stored part.path.nodes) (x ∷ choices_made sofar.made.runs) (stored later.nodes)) (sym r.is_run) (slices (stored later.nodes) step));
            here = rests_on s (marking s.bound) tree floor sound.sound fair (stored path.nodes) (stored later.nodes) sofar.here step;
          }

      stored_front : (k : ℕ) (nodes : List Node) → stored (take k nodes) ≡ take k (stored nodes)
      stored_front zero nodes = refl
      stored_front (suc k) [] = refl
      stored_front (suc k) (n ∷ nodes) = ap (λ t. seen n ∷ t) (stored_front k nodes)

      comes_to_end : (later : Part) (route : Route) (new : V) → HasEndedAbove (Comes tree b.location) takes floor path visitor false route new → later.path.nodes ≡ route.nodes → later.is_done ≡ true
          → HasMade takes old new b tree part later (count + 1)
      unfolding more
      comes_to_end later route new h same done =
          let r = run_here h.after (Ok h.value) h.came in
          let step = step_is h.after (Ok h.value) h.came None h.steps.0 in
          let nodes : stored later.path.nodes ≡ take floor (after_run m (stored path.nodes)) =
          ap stored (same ∙ h.steps.1) ∙ stored_front floor h.after.nodes ∙ ap (take floor) r.leaves in
          record {
            made = more false route new h;
            leaves = subst (λ (d : Bool). Leaves m (part_of part) (choices (stored h.after.nodes) ∷ choices_made sofar.made.runs) d (stored later.path.nodes)) (sym done)
                (subst (λ (x : List Choice). Ended m floor (stored part.path.nodes) (x ∷ choices_made sofar.made.runs) (stored later.path.nodes)) (sym r.is_run)
                (subst (λ (p : List Stored). Ended m floor (stored part.path.nodes) (run_of m (stored path.nodes) ∷ choices_made sofar.made.runs) p) (sym nodes) (ends step)));
          }

      comes_to_fail : (route : Route) (kind : FailureKind) → drives tree path ≡ (Err kind, trail route) → HasFailed takes old visitor b tree part count kind (chosen route)
      comes_to_fail route kind e =
          let r = run_here route (Err kind) e in
          let all : chosen route ≡ choices (stored route.nodes) = ap choices r.all_passed in
          record {
            made = sofar.made;
            last = stored path.nodes;
            led = sofar.led;
            next = all ∙ r.is_run;
            fails = ap (λ l. outcome (search_of b).max_branches tree l) all ∙ r.comes;
          }

    -- ---- what is promised

    pub working_on : (later : Route) (new : V) → HasEndedAbove (Comes tree b.location) takes floor path visitor true later new → IsWorking later new (count + 1)
    working_on later new h = record {
      rests = h.rests ∙ ap₂ (λ k e. at_rest k e later.nodes) (ap (λ (p : Route). p.search) z.rests) (ap (λ (p : Route). p.explores) z.rests);
      so_far = λ r. goes_on r later new h;
    }

    pub working_ends : (later : Part) (route : Route) (new : V) → HasEndedAbove (Comes tree b.location) takes floor path visitor false route new → part.is_done ≡ false → later.base ≡ part.base → later.path ≡ route → later.is_done ≡ true
        → Works takes old new b tree part later (Made (count + 1))
    working_ends later route new h left base same done =
        (ap (λ (v : Vec Choice Global). v.items) base, inr (left, λ r. comes_to_end r later route new h (ap (λ (p : Route). p.nodes) same) done))

    pub working_fails : (route : Route) (failure : Failure) (failing : Vec Choice Global) → drives tree path ≡ (Err failure.kind, trail route) → failing.items ≡ chosen route → part.is_done ≡ false
        → Works takes old visitor b tree part part (Failed count failure failing)
    working_fails route failure failing e same left =
        (refl, left, λ r. subst (λ l. HasFailed takes old visitor b tree part count failure.kind l) (sym same) (comes_to_fail r route failure.kind e))

  -- the slice is used up after a run
  pub working_stops : (later : Part) (path : Route) (visitor : V) (count : ℕ) → IsWorking path visitor (count + 1) → part.is_done ≡ false → later.base ≡ part.base → later.path ≡ path → later.is_done ≡ false
      → Works takes old visitor b tree part later (Made (count + 1))
  working_stops later path visitor count z left base same done =
      (ap (λ (v : Vec Choice Global). v.items) base, inr (left, λ r. there (z.so_far r)))
    where
      there : SoFar path.nodes visitor (count + 1) → HasMade takes old visitor b tree part later (count + 1)
      there y = record {
        made = y.made;
        leaves = subst (λ (d : Bool). Leaves m (part_of part) (choices_made y.made.runs) d (stored later.path.nodes)) (sym done)
            (subst (λ (p : Route). Slice m floor (stored part.path.nodes) (choices_made y.made.runs) (stored p.nodes)) (sym same) (slice y.made.runs y.made.counted y.led));
      }
        where
          slice : (runs : List (List Choice × D)) → length runs ≡ count + 1 → HasLed m floor (stored part.path.nodes) (choices_made runs) (stored path.nodes)
              → Slice m floor (stored part.path.nodes) (choices_made runs) (stored path.nodes)
          slice [] e led = absurd (omega (arith, e))
          slice (x ∷ runs) e (inl i) = absurd (let f = i.0 in cc f)
          slice (x ∷ runs) e (inr i) = i
