-- What a check that remembers states says of a body.
use Rattle.std.specs.Prelude.{ℕ, ◌≡◌, ◌≤◌, ◌+◌, ◌++◌, Bool, false, List, [], Option, Some, None, Ok, Err, length, slice_get, Vec}
use Rattle.std.specs.declared.alloc.Global.{Global}
use Rattle.std.specs.declared.time.Duration.{Duration}
use Rattle.loom_views.specs.declared.rt.failure.FailureKind.{FailureKind}
use Rattle.loom_objects.specs.declared.choice.Choice.{Choice}
use Rattle.loom_objects.specs.declared.failure.Failure.{Failure}
use Rattle.serde_json.specs.Written.{compact_text}
use Rattle.loom_engine.specs.declared.rt.path.node.Node.{Node}
use Rattle.loom_engine.specs.declared.rt.states.ways.Way.{Way}
use Rattle.loom_engine.specs.Path.Route.{Route, chosen, stored}
use Rattle.loom_engine.specs.Runs.Body.{Meaning, runs}
use Rattle.loom_engine.specs.Trees.Marks.{marking}
use Rattle.loom_engine.specs.Trees.Meeting.{whole_search}
use Rattle.loom_engine.specs.Trees.Outcomes.{outcome}
use Rattle.loom_engine.specs.Walk.Path.{Stored}
use Rattle.loom_engine.specs.Covering.Between.{IsFirstLost}
use Rattle.loom_engine.specs.Covering.Covered.{Covers}
use Rattle.loom_engine.specs.Covering.Kept.{Key}
use Rattle.loom_engine.specs.Covering.Sight.{IsKnown, seen_by}
use Rattle.loom_engine.specs.Covering.States.{AreLimits, state_after}
use Rattle.loom_engine.specs.Covering.Table.{Notes}
use Rattle.loom_engine.specs.Covering.Ways.{CanEnd}
use Rattle.loom_engine.specs.Covering.World.{World, IsCalled, world_of}
use Rattle.loom.specs.Model.CoverText.{CoverReadsAs, IsCoverTextOf, cover_data}
use Rattle.loom.specs.Model.Fresh.{WasGiven}
use Rattle.loom.specs.Model.Loop.{HasReached}
use Rattle.loom.specs.Model.Settings.{explores}
use Rattle.loom.specs.declared.model.builder.Builder.{Builder}
use Rattle.loom.specs.declared.model.cover.Covered.{Covered}
use Rattle.loom.specs.declared.model.cover.Covered.TheVariants.{Complete, Livelock, Stopped, Failed}

-- how many runs a report counts that ended
abbrev pub runs_in : Covered → ℕ
runs_in (Complete count met states) = count
runs_in (Livelock count met states choices) = count
runs_in (Stopped count met states limit) = count
runs_in (Failed count met states failure choices) = count

module _ {D S : Type 0} (b : Builder) (next : Meaning D S) (body : S) (given : List (List Choice × D)) where
  -- its runs, with so many operations that its threads may hand over
  abbrev pub worlds : ℕ → World D
  worlds steps = world_of (runs next (explores b) b.max_threads steps body)

  -- Whatever a run of the body comes to, and however many operations its threads may hand over, it comes to main's result in a run that
  -- the visitor was given, or fails by one of these limits, of which too many operations and too many versions are two.
  abbrev pub IsCovered : Type 0
  IsCovered = (limits : FailureKind → Bool) (steps_too : ℕ) → AreLimits limits
      → Covers limits (worlds b.max_steps) (worlds steps_too) given

  -- After whatever choices a run of the body isn't over, some more lead on to its end, the same however many operations its threads may hand
  -- over, unless it fails by one of these limits before.
  abbrev pub AllCanEnd : Type 0
  AllCanEnd = (limits : FailureKind → Bool) → AreLimits limits → CanEnd limits worlds

  -- These choices lead a run of the body to where none that goes on from there ends, however many operations its threads may hand over.
  pub record NeverEnds (c : List Choice) : Type 0 where
    pub called : IsCalled (worlds b.max_steps) c
    pub never : (steps_too : ℕ) (more : List Choice) (value : D) → IsCalled (worlds steps_too) (c ++ more) → (worlds steps_too).outcome (c ++ more) ≡ Some (Ok value) → ⊥

  -- what a report claims
  abbrev pub Claims : (Duration → Type 0) → Covered → Type 0
  Claims answered (Complete count met states) = IsCovered × AllCanEnd
  Claims answered (Livelock count met states choices) = IsCovered × NeverEnds choices.items
  Claims answered (Stopped count met states limit) = HasReached answered b (count + met) (Some limit)
  Claims answered (Failed count met states failure choices) = outcome b.max_branches (runs next (explores b) b.max_threads b.max_steps body) choices.items ≡ Some (Err failure.kind)

-- What a search tells that has nothing left to be tried, and so many runs that ended: whether each state that was noted leads to an end
-- by the ways that runs went, and else the choices that lead to the first that doesn't.
abbrev pub IsToldBy : List Way → List (List Choice) → ℕ → Covered → Type 0
IsToldBy ways led_by count (Complete number met states) = (number ≡ count) × IsFirstLost ways (length led_by) None
IsToldBy ways led_by count (Livelock number met states choices) = (number ≡ count) × (lost : ℕ) × IsFirstLost ways (length led_by) (Some lost) × (slice_get led_by lost ≡ Some choices.items)
IsToldBy ways led_by count (Stopped number met states limit) = ⊥
IsToldBy ways led_by count (Failed number met states failure choices) = ⊥

-- The run along the path failed so, by these choices, and has a place only where places are asked for.
pub record FailsAlong (b : Builder) (path : Route) (kind : FailureKind) (failure : Failure) (made : Vec Choice Global) : Type 0 where
  pub is : failure.kind ≡ kind
  pub placed : b.location ≡ false → failure.location ≡ None
  pub list : made.items ≡ chosen path

-- ---- checks one after another

module _ {D S : Type 0} (b : Builder) (next : Meaning D S) (body : S) where
  -- the state of a run after these choices, as it is kept of a body that is known never to switch whether the search explores, or of any
  abbrev pub state_so : Bool → List Choice → Key D S
  state_so never = state_after (seen_by never) next (explores b) b.max_threads b.max_steps body

  -- Covering checks of the body have reached this path, the first from the beginning, and each that followed from where the one before it
  -- was stopped: these states were kept, of a body of which that is known or isn't, these paths were left by their runs, and the visitor
  -- was given these runs.
  pub record HaveComeTo (path : List Node) (given : List (List Choice × D)) : Type 0 where
    pub never : Bool
    pub known : IsKnown never next body
    pub kept : List (Key D S)
    pub left : List (List Stored)
    pub rounds : Notes b.max_branches (marking None) (runs next (explores b) b.max_threads b.max_steps body) (state_so never) kept left given (stored path)

-- What one says that began with a path, to which such checks had come that gave the first runs: of these and of its own together.
module _ {D S : Type 0} (b : Builder) (next : Meaning D S) (body : S) (holds : Option (List ℕ) → Type 0) (before given : List (List Choice × D)) where
  -- the store may hold the text of a path with which to go on, to which they all have come
  pub record StopsAt : Type 0 where
    pub text : List ℕ
    pub held : holds (Some text)
    pub last : List Node
    pub reads : IsCoverTextOf (whole_search b.max_branches) (explores b) text last
    pub compact : text ≡ compact_text (cover_data (whole_search b.max_branches) (explores b) last)
    pub goes_on : HaveComeTo b next body last (before ++ given)

  -- each run is covered by all their runs; of the ways to ends only those that this check has seen are known
  abbrev pub ClaimsTogether : Covered → Type 0
  ClaimsTogether (Complete count met states) = IsCovered b next body (before ++ given)
  ClaimsTogether (Livelock count met states choices) = IsCovered b next body (before ++ given) × NeverEnds b next body (before ++ given) choices.items
  ClaimsTogether (Stopped count met states limit) = StopsAt
  ClaimsTogether (Failed count met states failure choices) = outcome b.max_branches (runs next (explores b) b.max_threads b.max_steps body) choices.items ≡ Some (Err failure.kind)

  -- what the store may hold is a text of a path to which they have come, after all but the last runs, no more than the interval
  pub record IsHeld : Type 0 where
    pub text : Option (List ℕ)
    pub held : holds text
    pub last : List Node
    pub reads : CoverReadsAs (whole_search b.max_branches) (explores b) text last
    pub front : List (List Choice × D)
    pub behind : List (List Choice × D)
    pub splits : given ≡ front ++ behind
    pub few : length behind ≤ b.checkpoint_interval
    pub goes_on : HaveComeTo b next body last (before ++ front)

-- Where one check was stopped, another one goes on that reads the same text.
abbrev pub GoesOnLaw : Type 0 → Type 0 → Type 0
GoesOnLaw D S = (b : Builder) (next : Meaning D S) (body : S) (text : List ℕ) (last path : List Node) (given : List (List Choice × D)) → IsCoverTextOf (whole_search b.max_branches) (explores b) text last
    → IsCoverTextOf (whole_search b.max_branches) (explores b) text path → HaveComeTo b next body last given → HaveComeTo b next body path given

-- ---- reports

-- a limit stops a check only where it is reached, by the runs that were begun
abbrev pub StopsBy : (Duration → Type 0) → Builder → Covered → Type 0
StopsBy answered b (Complete count met states) = Unit {0}
StopsBy answered b (Livelock count met states choices) = Unit {0}
StopsBy answered b (Stopped count met states limit) = HasReached answered b (count + met) (Some limit)
StopsBy answered b (Failed count met states failure choices) = Unit {0}

-- a failure has no place where none is asked for
abbrev pub IsPlaced : Builder → Covered → Type 0
IsPlaced b (Complete count met states) = Unit {0}
IsPlaced b (Livelock count met states choices) = Unit {0}
IsPlaced b (Stopped count met states limit) = Unit {0}
IsPlaced b (Failed count met states failure choices) = b.location ≡ false → failure.location ≡ None

-- What a report says of the body, and of the runs that the visitor was given: where the store gave what it may give, and holds what it
-- may hold, and where the clock has answered so.
pub record Covering {V D S : Type 0} (takes : V → List Choice → D → V → Type 0) (old new : V) (b : Builder) (next : Meaning D S) (body : S) (gives holds : Option (List ℕ) → Type 0) (answered : Duration → Type 0)
    (covered : Covered) : Type 0 where
  -- the path with which the check began
  pub text : Option (List ℕ)
  pub gave : gives text
  pub path : List Node
  pub reads : CoverReadsAs (whole_search b.max_branches) (explores b) text path
  -- what the visitor was given
  pub given : List (List Choice × D)
  pub was_given : WasGiven takes old new given (runs_in covered)
  pub limits : StopsBy answered b covered
  pub placed : IsPlaced b covered
  -- from the beginning
  pub fresh : path ≡ [] → Claims b next body given answered covered
  -- from where other checks were stopped
  pub together : (before : List (List Choice × D)) → HaveComeTo b next body path before → ClaimsTogether b next body holds before given covered
  pub held : (before : List (List Choice × D)) → HaveComeTo b next body path before → IsHeld b next body holds before given

-- What it says where nobody was given the runs, and no time passes: there are as many as it counts.
pub record CoveringAlone {D S : Type 0} (b : Builder) (next : Meaning D S) (body : S) (covered : Covered) : Type 0 where
  pub given : List (List Choice × D)
  pub counted : length given ≡ runs_in covered
  pub claims : Claims b next body given (λ time. time ≡ record { secs = 0; nanos = 0 }) covered
