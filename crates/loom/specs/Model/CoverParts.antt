-- How the work on a part of a covering search goes.
use Rattle.std.specs.Prelude.{ℕ, ◌≡◌, ◌≤◌, ◌<◌, ◌+◌, ◌^◌, max, ◌⊎◌, Bool, true, false, List, [], ◌∷◌, ◌++◌, take, length, Option, Some, None, Err}
use Rattle.loom_views.specs.declared.rt.failure.FailureKind.{FailureKind}
use Rattle.loom_objects.specs.declared.choice.Choice.{Choice}
use Rattle.loom_objects.specs.Tree.Tree.{Tree}
use Rattle.loom_engine.specs.declared.rt.path.checkpoint.error.PathError.{PathError}
use Rattle.loom_engine.specs.declared.rt.parts.Part.{Part}
use Rattle.loom_engine.specs.declared.rt.parts.Parts.{Parts}
use Rattle.loom_engine.specs.Path.Route.{Route, at_rest, stored}
use Rattle.loom_engine.specs.Parts.Keeping.{IsOtherSearch}
use Rattle.loom_engine.specs.Runs.Body.{Meaning, runs as runs_of}
use Rattle.loom_engine.specs.Trees.Marks.{marking}
use Rattle.loom_engine.specs.Trees.Meeting.{machine_of, whole_search}
use Rattle.loom_engine.specs.Trees.Outcomes.{outcome}
use Rattle.loom_engine.specs.Parts.Floors.{step_above}
use Rattle.loom_engine.specs.Walk.Driven.{IsLeftBy, IsOneOf}
use Rattle.loom_engine.specs.Walk.Machine.{Machine}
use Rattle.loom_engine.specs.Walk.Path.{Stored, choices}
use Rattle.loom_engine.specs.Covering.Covered.{IsEnd}
use Rattle.loom_engine.specs.Covering.Cut.{with_run}
use Rattle.loom_engine.specs.Covering.Kept.{Noted}
use Rattle.loom_engine.specs.Covering.Sight.{IsKnown}
use Rattle.loom_engine.specs.Covering.Spread.{HasSpread, IsFull, IsSpread, IsTableOf, LeadSo}
use Rattle.loom_engine.specs.Covering.World.{world_of}
use Rattle.loom.specs.declared.model.builder.Builder.{Builder}
use Rattle.loom.specs.declared.model.cover.part.Above.{Above}
use Rattle.loom.specs.declared.model.cover.part.Above.TheVariants as above
use Rattle.loom.specs.declared.model.cover.part.Went.{Went}
use Rattle.loom.specs.declared.model.cover.part.Went.TheVariants as went
use Rattle.loom.specs.declared.model.cover.part.PartCovered.{PartCovered}
use Rattle.loom.specs.declared.model.cover.part.PartCovered.TheVariants.{Made, Failed}
use Rattle.loom.specs.declared.model.error.CheckError.{CheckError}
use Rattle.loom.specs.declared.model.parts.Slice.{Slice}
use Rattle.loom.specs.Model.Covered.{state_so}
use Rattle.loom.specs.Model.Parts.{GivenBack}
use Rattle.loom.specs.Model.Refusals.{of_path}
use Rattle.loom.specs.Model.Settings.{explores}

module _ {D S : Type 0} (b : Builder) (next : Meaning D S) (body : S) where
  -- the body's runs, and the machine whose nodes they meet
  abbrev pub body_runs : Tree D
  body_runs = runs_of next (explores b) b.max_threads b.max_steps body

  abbrev pub cover_machine : Machine
  cover_machine = machine_of (whole_search b.max_branches) (marking None) body_runs

  -- A covering search of the body has reached these parts, which visitors were given these runs of; and each state that was noted is of a
  -- run that was made. The body is known never to switch whether the search explores, or isn't.
  pub record HaveSpreadTo (parts : Parts) (noted : Noted D S) (given : List (List Choice × D)) : Type 0 where
    pub never : Bool
    pub known : IsKnown never next body
    pub left : List (List Stored)
    pub come : HasSpread b.max_branches (marking None) body_runs (state_so b next body never) left given parts
    pub table : IsTableOf never (state_so b next body never) left noted

-- A list of parts from the beginning is one that a covering search has reached by no run, and where what was noted is forgotten it has
-- still reached the list.
abbrev pub BeginLaw : Type 0 → Type 0 → Type 0
BeginLaw D S = (b : Builder) (next : Meaning D S) (body : S) (never : Bool) (parts : Parts) → IsKnown never next body → ((m : Machine) → IsSpread m [] parts)
    → HaveSpreadTo b next body parts (record { states = []; led_by = []; never = never }) []

abbrev pub ForgetLaw : Type 0 → Type 0 → Type 0
ForgetLaw D S = (b : Builder) (next : Meaning D S) (body : S) (parts : Parts) (noted : Noted D S) (given : List (List Choice × D)) → HaveSpreadTo b next body parts noted given
    → HaveSpreadTo b next body parts (record { states = []; led_by = []; never = noted.never }) given

-- the choices lead to this failure
abbrev pub FailsBy : {D S : Type 0} → Builder → Meaning D S → S → FailureKind → List Choice → Type 0
FailsBy b next body kind made = outcome b.max_branches (body_runs b next body) made ≡ Some (Err kind)

-- ---- one run

-- the path goes on above the floor to this one, or its nodes below the floor are left
abbrev pub StepsSo : ℕ → List Stored → Bool → List Stored → Type 0
StepsSo floor p false later = step_above floor p ≡ Some later
StepsSo floor p true later = (step_above floor p ≡ None) × (later ≡ take floor p)

module _ {V D S : Type 0} (takes : V → List Choice → D → V → Type 0) (old new : V) (b : Builder) (next : Meaning D S) (body : S) (floor : ℕ) (p : List Stored) where
  -- the visitor was given the run, if it ended
  abbrev pub TakesIt : List Choice → Option D → Type 0
  TakesIt c (Some value) = takes old c value new
  TakesIt c None = new ≡ old

  -- A run along the path p, after runs that had left all these paths. It ended with this value, or was given up in a state at a node of
  -- those paths or its own. The search has stepped on from the path that it left, and the states that were noted are of these nodes.
  pub record HasGone (never : Bool) (all : List (List Stored)) (more : Noted D S) (came : Option D) (is_last : Bool) (later : List Stored) : Type 0 where
    pub left : List Stored
    pub left_by : IsLeftBy p left
    pub full : IsFull (cover_machine b next body) left
    pub steps : StepsSo floor left is_last later
    pub took : TakesIt (choices left) came
    pub ends : (given : List (List Choice × D)) → IsEnd (world_of (body_runs b next body)) (state_so b next body never) (left ∷ all) (with_run (choices left) came given) left
    pub table : IsTableOf never (state_so b next body never) (left ∷ all) more

  -- Runs along the path p, and along those that follow above the floor, after runs that had left all these paths. So many ended and were given
  -- to the visitor, and so many were given up in states at nodes of those paths or their own. The search has reached this path, and
  -- the states that were noted are of their nodes.
  pub record HaveMade (never : Bool) (all : List (List Stored)) (more : Noted D S) (count met : ℕ) (is_done : Bool) (q : List Stored) : Type 0 where
    pub given : List (List Choice × D)
    pub was_given : GivenBack takes old given new
    pub counted : length given ≡ count
    pub left : List (List Stored)
    pub begun : length left ≡ count + met
    pub lead : LeadSo (cover_machine b next body) floor p left is_done q
    pub ends : (x : List Stored) → IsOneOf x left → IsEnd (world_of (body_runs b next body)) (state_so b next body never) (left ++ all) given x
    pub table : IsTableOf never (state_so b next body never) (left ++ all) more

module _ {D S : Type 0} (b : Builder) (next : Meaning D S) (body : S) (known noted : Noted D S) (p : List Stored) where
  -- the path is one of the body's, and the states that are known, and those that were noted, are of runs that had left these paths
  pub record IsGoing (never : Bool) (all : List (List Stored)) : Type 0 where
    pub full : IsFull (cover_machine b next body) p
    pub known_so : IsTableOf never (state_so b next body never) all known
    pub noted_so : IsTableOf never (state_so b next body never) all noted

module _ {V D S : Type 0} (takes : V → List Choice → D → V → Type 0) (old new : V) (b : Builder) (next : Meaning D S) (body : S) (known noted more : Noted D S) where
  -- how one run along a path went, and the step above a floor
  abbrev pub GoesOn : ℕ → Route → Route → Went → Type 0
  GoesOn floor path later (went.Ended is_last) =
      (later ≡ at_rest path.search path.explores later.nodes)
      × ((value : D) × ((never : Bool) (all : List (List Stored)) → IsGoing b next body known noted (stored path.nodes) never all → HasGone takes old new b next body floor (stored path.nodes) never all more (Some value) is_last (stored later.nodes)))
  GoesOn floor path later (went.Met is_last) =
      (later ≡ at_rest path.search path.explores later.nodes)
      × ((never : Bool) (all : List (List Stored)) → IsGoing b next body known noted (stored path.nodes) never all → HasGone takes old new b next body floor (stored path.nodes) never all more None is_last (stored later.nodes))
  GoesOn floor path later (went.Failed failure choices) = (never : Bool) (all : List (List Stored)) → IsGoing b next body known noted (stored path.nodes) never all → FailsBy b next body failure.kind choices.items

  -- how the runs along a path and those that follow went
  abbrev pub CoversAbove : ℕ → Route → Route → Above → Type 0
  CoversAbove floor path later (above.Made count met is_done) =
      (never : Bool) (all : List (List Stored)) → IsGoing b next body known noted (stored path.nodes) never all → HaveMade takes old new b next body floor (stored path.nodes) never all more count met is_done (stored later.nodes)
  CoversAbove floor path later (above.Failed count met failure choices) = (never : Bool) (all : List (List Stored)) → IsGoing b next body known noted (stored path.nodes) never all → FailsBy b next body failure.kind choices.items

  -- How the work on the part went. Where none of its runs was left none was made.
  abbrev pub Covers : Part → Part → PartCovered → Type 0
  Covers part later (Made count met) =
      (later.base.items ≡ part.base.items)
      × (((part.is_done ≡ true) × (count ≡ 0) × (met ≡ 0) × (new ≡ old) × (more ≡ noted) × (later ≡ part))
      ⊎ ((part.is_done ≡ false)
      × ((never : Bool) (all : List (List Stored)) → IsGoing b next body known noted (stored part.path.nodes) never all
      → HaveMade takes old new b next body (length part.base.items) (stored part.path.nodes) never all more count met later.is_done (stored later.path.nodes))))
  Covers part later (Failed count met failure choices) =
      (later ≡ part) × (part.is_done ≡ false) × ((never : Bool) (all : List (List Stored)) → IsGoing b next body known noted (stored part.path.nodes) never all → FailsBy b next body failure.kind choices.items)

-- no more runs were begun than the slice has, or one
abbrev pub IsWithin : Slice → PartCovered → Type 0
IsWithin slice (Made count met) = count + met ≤ max 1 slice.runs
IsWithin slice (Failed count met failure choices) = count + met ≤ max 1 slice.runs

abbrev pub IsWithinAbove : Slice → Above → Type 0
IsWithinAbove slice (above.Made count met is_done) = count + met ≤ max 1 slice.runs
IsWithinAbove slice (above.Failed count met failure choices) = count + met ≤ max 1 slice.runs

-- the runs that ended count as the part's, as far as a number holds them
abbrev pub CountsRuns : Part → Part → PartCovered → Type 0
CountsRuns old new (Made count met) = old.runs + count < 2 ^ 64 → new.runs ≡ old.runs + count
CountsRuns old new (Failed count met failure choices) = new ≡ old

-- the path is of another search than a covering check by this builder, as the error says
abbrev pub IsOtherPart : Builder → Route → CheckError → Type 0
IsOtherPart b path e = (why : PathError) × IsOtherSearch (whole_search b.max_branches) (explores b) path why × (e ≡ of_path why)
