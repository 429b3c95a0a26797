-- How the work on a part of a search goes.
use Rattle.std.specs.Prelude.{◌≡◌, ◌≤◌, ◌<◌, ◌+◌, ◌^◌, max, ◌⊎◌, ℕ, Bool, true, false, List, [], ◌∷◌, length, Some, Result, Ok, Err}
use Rattle.loom_views.specs.declared.rt.failure.FailureKind.{FailureKind}
use Rattle.loom_objects.specs.declared.choice.Choice.{Choice}
use Rattle.loom_objects.specs.declared.failure.Failure.{Failure}
use Rattle.loom_objects.specs.Tree.Tree.{Tree}
use Rattle.loom_engine.specs.Walk.Machine.{Machine}
use Rattle.loom_engine.specs.Walk.Path.{Stored, IsResting}
use Rattle.loom_engine.specs.Walk.Walks.{run_of}
use Rattle.loom_engine.specs.Trees.Outcomes.{outcome, AreRuns, choices_made}
use Rattle.loom_engine.specs.Path.Route.{Route, at_rest, chosen, stored}
use Rattle.loom_engine.specs.Parts.Keeping.{Leaves, part_of}
use Rattle.loom_engine.specs.Parts.Openings.{StepsAbove}
use Rattle.loom_engine.specs.Parts.Slices.{Slice}
use Rattle.loom_engine.specs.declared.rt.parts.Part.{Part}
use Rattle.loom.specs.declared.model.builder.Builder.{Builder}
use Rattle.loom.specs.declared.model.parts.Slice.{Slice as Limits}
use Rattle.loom.specs.declared.model.parts.Worked.{Worked}
use Rattle.loom.specs.declared.model.parts.Worked.TheVariants.{Made, Failed}
use Rattle.loom.specs.declared.model.rounds.Round.{Round}
use Rattle.loom.specs.declared.model.rounds.Round.TheVariants as round
use Rattle.loom.specs.Model.Fresh.{machine}
use Rattle.loom.specs.Model.Settings.{search_of}

-- ---- one round

module _ {V D : Type 0} (comes : Route → Result D Failure → Route → Type 0) (takes : V → List Choice → D → V → Type 0) (floor : ℕ) (old : Route) (receiver : V) where
  -- the run along the path ended with a value, which the receiver was given, and then the path stepped above the floor, or couldn't
  pub record HasEndedAbove (on : Bool) (new : Route) (later : V) : Type 0 where
    pub value : D
    pub after : Route
    pub came : comes old (Ok value) after
    pub took : takes receiver (chosen after) value later
    pub steps : StepsAbove floor after.nodes on new.nodes
    pub rests : new ≡ at_rest old.search old.explores new.nodes

  -- how a round went
  abbrev pub ComesToAbove : Round → Route → V → Type 0
  ComesToAbove round.Next new later = HasEndedAbove true new later
  ComesToAbove round.Last new later = HasEndedAbove false new later
  ComesToAbove (round.Failed failure choices) new later = (after : Route) × comes old (Err failure) after × (choices.items ≡ chosen after) × (later ≡ receiver)

-- ---- many rounds

-- so many runs of the machine have led from one path to another, the newest first
abbrev pub HasLed : Machine → ℕ → List Stored → List (List Choice) → List Stored → Type 0
HasLed m floor p runs q = ((runs ≡ []) × (q ≡ p)) ⊎ Slice m floor p runs q

-- the visitor was given these runs, the newest first
abbrev pub GivenBack : {V D : Type 0} → (V → List Choice → D → V → Type 0) → V → List (List Choice × D) → V → Type 0
GivenBack takes old [] new = new ≡ old
GivenBack takes old (made ∷ runs) new = (mid : _) × GivenBack takes old runs mid × takes mid made.0 made.1 new

module _ {V D : Type 0} (takes : V → List Choice → D → V → Type 0) (old new : V) (b : Builder) (tree : Tree D) (part : Part) where
  -- the visitor was given these runs of the part, with their values, so many, the newest first
  pub record HasGiven (count : ℕ) : Type 0 where
    pub runs : List (List Choice × D)
    pub given : GivenBack takes old runs new
    pub counted : length runs ≡ count
    pub are_runs : AreRuns (search_of b).max_branches tree runs

  -- these are runs of the part, and have left it so
  pub record HasMade (later : Part) (count : ℕ) : Type 0 where
    pub made : HasGiven count
    pub leaves : Leaves (machine (search_of b) tree) (part_of part) (choices_made made.runs) later.is_done (stored later.path.nodes)

  -- after these runs of the part the next one failed: these are its choices, and they lead to the failure
  pub record HasFailed (count : ℕ) (failure : FailureKind) (failing : List Choice) : Type 0 where
    pub made : HasGiven count
    pub last : List Stored
    pub led : HasLed (machine (search_of b) tree) (length part.base.items) (stored part.path.nodes) (choices_made made.runs) last
    pub next : failing ≡ run_of (machine (search_of b) tree) last
    pub fails : outcome (search_of b).max_branches tree failing ≡ Some (Err failure)

  -- The part's path is one of this body's. So it is with each part of a list that has come from its beginning by this body's runs.
  abbrev pub IsOfBody : Type 0
  IsOfBody = IsResting (machine (search_of b) tree) (stored part.path.nodes)

  -- How the work on the part went. Where none of its runs was left none was made.
  abbrev pub Works : Part → Worked → Type 0
  Works later (Made count) =
      (later.base.items ≡ part.base.items)
      × (((part.is_done ≡ true) × (count ≡ 0) × (new ≡ old) × (later ≡ part)) ⊎ ((part.is_done ≡ false) × (IsOfBody → HasMade later count)))
  Works later (Failed count failure choices) = (later ≡ part) × (part.is_done ≡ false) × (IsOfBody → HasFailed count failure.kind choices.items)

-- no more runs were made than the slice has, or one
abbrev pub IsWithin : Limits → Worked → Type 0
IsWithin slice (Made count) = count ≤ max 1 slice.runs
IsWithin slice (Failed count failure choices) = count ≤ max 1 slice.runs

-- the runs that were made count as the part's, as far as a number holds them
abbrev pub CountsRuns : Part → Part → Worked → Type 0
CountsRuns old new (Made count) = old.runs + count < 2 ^ 64 → new.runs ≡ old.runs + count
CountsRuns old new (Failed count failure choices) = new ≡ old
