-- A recording: what closures were seen to answer, and that it is true of a function. It isn't part of what a check promises.
use Rattle.std.specs.Prelude.{ℕ, ◌≡◌, ◌≢◌, ◌<◌, ◌⊎◌, ⊤, Bool, true, false, List, [], ◌∷◌, length, ◌++◌, ◌+◌, Option, Some, None, Result, Ok, Err, IfSome, MatchOption, get_or, map, slice_get, slice_set}
use Rattle.loom_objects.specs.Operation.Plain.{started_request}
use Rattle.loom_objects.specs.declared.operation.Request.{Request}
use Rattle.loom_objects.specs.declared.failure.Failure.{Failure as Because}
use Rattle.loom_objects.specs.declared.operation.Reply.{Reply}
use Rattle.loom_objects.specs.declared.operation.Reply.TheVariants as reply
use Rattle.loom_objects.specs.declared.operation.Turn.{Turn}
use Rattle.loom_objects.specs.declared.operation.Turn.TheVariants as turn
use Rattle.loom_engine.specs.Runs.Body.{with_child}
use Rattle.loom_engine.specs.declared.rt.states.State.{State as Kept}
use Rattle.loom_engine.specs.Covering.Kept.{Noted}
use Rattle.loom_engine.specs.Path.Route.{IsSameSearch, Route, Steps, at_rest, chosen}
use Rattle.loom_engine.specs.Parts.Openings.{StepsAbove}
use Rattle.loom_objects.specs.declared.choice.Choice.{Choice}
use Rattle.loom_explain.specs.declared.event.Event.{Event}
use Rattle.loom.specs.Explain.Story.{Story}
use Rattle.loom.specs.Model.Run.{IsLocated, RunsAlong}
use Rattle.loom.specs.Model.Turns.{EndsWith}
use Rattle.loom.specs.declared.model.run.Ending.{Ending}
use Rattle.loom.specs.declared.model.run.Ending.TheVariants.{Ended, Failed}
use Rattle.loom.specs.declared.model.rounds.Round.{Round}
use Rattle.loom.specs.declared.model.rounds.Round.TheVariants.{Next, Last}
use Rattle.loom.specs.declared.model.rounds.Round.TheVariants as round
use Rattle.loom.specs.declared.runner.recorded.adding.Answered.{Answered}
use Rattle.loom.specs.declared.runner.recorded.adding.Answered.TheVariants.{So, Other}
use Rattle.loom.specs.declared.runner.recorded.recording.Answer.{Answer}
use Rattle.loom_engine.specs.declared.rt.execution.Limits.{Limits}
use Rattle.loom.specs.declared.runner.history.event.Event.{Event as RunEvent}
use Rattle.loom.specs.Runner.Chains.{GoesTo, HasEnded, Run}
use Rattle.loom.specs.Runner.Histories.{Leads, Moment, ended_by, last_event}
use Rattle.loom.specs.Model.Loop.{Comes}
use Rattle.loom.specs.Model.Rounds.{ComesTo}
use Rattle.loom.specs.declared.model.error.CheckError.{CheckError}
use Rattle.loom.specs.declared.runner.error.RunnerError.{RunnerError}
use Rattle.loom.specs.declared.runner.error.RunnerError.TheVariants as error
use Rattle.loom.specs.declared.runner.stop.Stop.{Stop}
use Rattle.loom.specs.Runner.Handle.{Teller}
use Rattle.loom.specs.Runner.Made.{Made}
use Rattle.loom.specs.Runner.Recorded.{AreDone, Function, HasMade, HasMadeOne, IsDone, MayHaveMade, Word, begun_by, runs_by, spawned, tells}

-- what contracts see of a recording: the answers, the oldest first, and how many places there are
pub record Answers (D : Type 0) : Type 0 where
  pub answers : List (Answer D)
  pub places : ℕ

module _ {D : Type 0} where
  -- at the place a thread was told this
  abbrev pub IsAt : List (Word D) → ℕ → Word D → Type 0
  IsAt words place word = slice_get words place ≡ Some word

  -- the answer is true of the function, if threads at these places were told these words
  pub record IsTrueAnswer (does : Function D) (words : List (Word D)) (a : Answer D) : Type 0 where
    pub word : Word D
    pub from : IsAt words a.from word
    pub asks : does (tells a.reply ∷ word) ≡ a.op
    pub after : IsAt words a.after (tells a.reply ∷ word)
    pub child : MatchOption a.child (started_request a.op ≡ None) (λ place. (started_request a.op ≡ Some tt) × IsAt words place (spawned ∷ tells a.reply ∷ word))

  -- the recording is true of the function, if threads at its places were told these words
  pub record IsTrueOf (does : Function D) (words : List (Word D)) (r : Answers D) : Type 0 where
    pub main : IsAt words 0 []
    pub all : length words ≡ r.places
    pub answers : (k : ℕ) (a : Answer D) → slice_get r.answers k ≡ Some a → IsTrueAnswer does words a

  -- the threads are at these places, where they were told these words
  abbrev pub AreAt : List (Word D) → List ℕ → List (Word D) → Type 0
  AreAt words [] [] = Unit {0}
  AreAt words [] (word ∷ told) = ⊥
  AreAt words (place ∷ places) [] = ⊥
  AreAt words (place ∷ places) (word ∷ told) = IsAt words place word × AreAt words places told

  -- A thread that gets the reply hands over this operation by the function, and is at the next place; what it starts is at a place
  -- more.
  pub record HandsOver (does : Function D) (words : List (Word D)) (told : List (Word D)) (thread : ℕ) (answer : Reply D) (op : Request D ⊤) (places : List ℕ) : Type 0 where
    pub word : Word D
    pub at : slice_get told thread ≡ Some word
    pub asks : does (tells answer ∷ word) ≡ op
    pub goes : AreAt words places (with_child (slice_set told thread (tells answer ∷ word)) (begun_by op (tells answer ∷ word)))

  -- the number of an answer of a thread at the place to the reply
  pub record IsFound (r : Answers D) (place : ℕ) (answer : Reply D) (k : ℕ) : Type 0 where
    pub found : Answer D
    pub at : slice_get r.answers k ≡ Some found
    pub from_so : found.from ≡ place
    pub reply_so : found.reply ≡ answer

  -- what an operation starts is at a place more
  abbrev pub HasChild : Request D ⊤ → ℕ → Option ℕ → ℕ → Type 0
  HasChild op after None places = (started_request op ≡ None) × (places ≡ after + 1)
  HasChild op after (Some child) places = (started_request op ≡ Some tt) × (child ≡ after + 1) × (places ≡ after + 2)

  -- an answer was added, of this number
  pub record IsLonger (old : Answers D) (place : ℕ) (answer : Reply D) (asked : Request D ⊤) (k : ℕ) (new : Answers D) : Type 0 where
    pub added : Answer D
    pub answers_so : new.answers ≡ old.answers ++ added ∷ []
    pub number_so : k ≡ length old.answers
    pub from_so : added.from ≡ place
    pub reply_so : added.reply ≡ answer
    pub op_so : added.op ≡ asked
    pub after_so : added.after ≡ old.places
    pub child_so : HasChild asked old.places added.child new.places

  -- what is recorded of this reply to a thread at the place: by the answer of this number that it hands over this operation, which was
  -- there or was added; or another operation
  abbrev pub HasAnswered : Answers D → ℕ → Reply D → Request D ⊤ → Answers D → Answered → Type 0
  HasAnswered old place answer asked new (So k) = ((z : IsFound old place answer k) × (z.found.op ≡ asked) × (new ≡ old)) ⊎ IsLonger old place answer asked k new
  HasAnswered old place answer asked new (Other k) = k < length new.answers

  -- the function hands over this operation for the thread, if there is one, that was told this, and gets the reply
  abbrev pub IsAsked : Function D → List (Word D) → ℕ → Reply D → Request D ⊤ → Type 0
  IsAsked does told thread answer asked = IfSome (slice_get told thread) (λ word. does (tells answer ∷ word) ≡ asked)

  -- whose turn comes after an event, and the reply to that thread
  abbrev pub told_next : Result (Turn D) Because → Option (ℕ × Reply D)
  told_next (Ok (turn.Reply thread answer)) = Some (thread, answer)
  told_next (Ok (turn.Start thread)) = Some (thread, reply.Start)
  told_next (Ok (turn.Ended value)) = None
  told_next (Err failure) = None

-- the story ends so, and leaves the path so
abbrev pub EndsThere : {D : Type 0} → Story D → Ending D → Route → Type 0
EndsThere whole ending path = (events : List Event) × EndsWith whole events ending path

-- A run along the path ended so. If it failed the visitor isn't given it; if it ended with a value it is, and the path steps to the next
-- one, or to none.
module _ {D V : Type 0} (takes : V → List Choice → D → V → Type 0) where
  pub record IsTaken (value : D) (path : Route) (v : V) (on : Bool) (path' : Route) (v' : V) : Type 0 where
    pub took : takes v (chosen path) value v'
    pub steps : Steps path.nodes on path'.nodes
    pub rests : path' ≡ at_rest path.search path.explores path'.nodes

  abbrev pub EndsRound : Ending D → Route → V → Round → Route → V → Type 0
  EndsRound (Ended value) path v Next path' v' = IsTaken value path v true path' v'
  EndsRound (Ended value) path v Last path' v' = IsTaken value path v false path' v'
  EndsRound (Ended value) path v (round.Failed failure choices) path' v' = ⊥
  EndsRound (Failed failure) path v (round.Failed found choices) path' v' = (found ≡ failure) × (choices.items ≡ chosen path) × (path' ≡ path) × (v' ≡ v)
  EndsRound (Failed failure) path v Next path' v' = ⊥
  EndsRound (Failed failure) path v Last path' v' = ⊥

  -- and so above a floor
  pub record IsTakenAbove (floor : ℕ) (value : D) (path : Route) (v : V) (on : Bool) (path' : Route) (v' : V) : Type 0 where
    pub took : takes v (chosen path) value v'
    pub steps : StepsAbove floor path.nodes on path'.nodes
    pub rests : path' ≡ at_rest path.search path.explores path'.nodes

  abbrev pub EndsAbove : ℕ → Ending D → Route → V → Round → Route → V → Type 0
  EndsAbove floor (Ended value) path v Next path' v' = IsTakenAbove floor value path v true path' v'
  EndsAbove floor (Ended value) path v Last path' v' = IsTakenAbove floor value path v false path' v'
  EndsAbove floor (Ended value) path v (round.Failed failure choices) path' v' = ⊥
  EndsAbove floor (Failed failure) path v (round.Failed found choices) path' v' = (found ≡ failure) × (choices.items ≡ chosen path) × (path' ≡ path) × (v' ≡ v)
  EndsAbove floor (Failed failure) path v Next path' v' = ⊥
  EndsAbove floor (Failed failure) path v Last path' v' = ⊥

-- ---- histories

module _ {D : Type 0} where
  -- the machine was led from this moment to an end so, and has left the path so
  pub record Led (m : Moment D) (value : D) (path : Route) : Type 0 where
    pub events : List (RunEvent D)
    pub now : Moment D
    pub leads : Leads m events now
    pub ended : ended_by (last_event events) ≡ Some value
    pub route : now.route ≡ path

  abbrev pub LeadsTo : Moment D → Ending D → Route → Type 0
  LeadsTo m (Ended value) path = Led m value path
  LeadsTo m (Failed failure) path = Unit {0}

  -- a run of the machine began with this path, and has ended so
  pub record IsRun (limits : Limits) (path path' : Route) (r : Run D) : Type 0 where
    pub began : r.began ≡ path
    pub ended : HasEnded limits r
    pub route : r.now.route ≡ path'

  abbrev pub HasRun : Limits → Route → Ending D → Route → Type 0
  HasRun limits path (Ended value) path' = (r : Run D) × IsRun limits path path' r
  HasRun limits path (Failed failure) path' = Unit {0}

-- and the search goes on from there to the other path
abbrev pub GoesOn : (D : Type 0) → Limits → Route → Route → Type 0
GoesOn D limits path next = (r : Run D) × (r.began ≡ path) × HasEnded limits r × GoesTo r.now.route (Some next)

-- ---- one run

-- the run along the path is that of each function of which the recording is true, and one of the machine
pub record IsKnownRun {D : Type 0} (limits : Limits) (keeps : Bool) (recording : Answers D) (path : Route) (ending : Ending D) (path' : Route) : Type 0 where
  pub along : (does : Function D) (words : List (Word D)) → IsTrueOf does words recording → RunsAlong (runs_by does path.explores limits.max_threads limits.max_steps) path ending path'
  pub history : HasRun limits path ending path'
  pub located : IsLocated keeps ending
  pub same : IsSameSearch path path'

-- A run: one was made of the closure, or none was; the recording stays true of each function that does what the threads did there; and by
-- what is recorded then it is this run.
pub record MakesRun {D F : Type 0} (called : F → Teller D → Result D Stop → F → Teller D → Type 0) (limits : Limits) (keeps : Bool) (path : Route) (f : F) (old : Answers D) (ending : Ending D) (path' : Route)
    (f' : F) (new : Answers D) : Type 0 where
  pub real : Option (Made D)
  pub made : MayHaveMade called limits f real f'
  pub stays : (does : Function D) (words : List (Word D)) → IsTrueOf does words old → IfSome real (λ m. IsDone does m.log.history) → (later : List (Word D)) × IsTrueOf does later new
  pub known : IsKnownRun limits keeps new path ending path'

-- ---- rounds

-- the run along the path, and the step to the next one, are those of each function of which the recording is true
abbrev pub IsKnownRound : {D V : Type 0} → (V → List Choice → D → V → Type 0) → Limits → Bool → Answers D → Route → V → Round → Route → V → Type 0
IsKnownRound takes limits keeps recording path v round path' v' =
    (does : Function _) (words : List (Word _)) → IsTrueOf does words recording
    → ComesTo (Comes (runs_by does path.explores limits.max_threads limits.max_steps) keeps) takes path v round path' v'

-- A round: a run was made of the closure, or none was; the recording stays true of each function that does what the threads did there;
-- and by what is recorded then it is a round.
pub record MakesRound {D F V : Type 0} (called : F → Teller D → Result D Stop → F → Teller D → Type 0) (takes : V → List Choice → D → V → Type 0) (limits : Limits) (keeps : Bool) (path : Route)
    (f : F) (v : V) (old : Answers D) (round : Round) (path' : Route) (f' : F) (v' : V) (new : Answers D) : Type 0 where
  pub real : Option (Made D)
  pub made : MayHaveMade called limits f real f'
  pub stays : (does : Function D) (words : List (Word D)) → IsTrueOf does words old → IfSome real (λ m. IsDone does m.log.history) → (later : List (Word D)) × IsTrueOf does later new
  pub known : IsKnownRound takes limits keeps new path v round path' v'

-- ---- states

module _ {D : Type 0} (words : List (Word D)) where
  -- what the thread at the place was told
  abbrev pub told_at : ℕ → Word D
  told_at place = get_or words place []

  -- a state that was noted, with what threads were told in place of where they are
  abbrev pub told_in : Kept D ℕ → Kept D (Word D)
  told_in kept = record {
    threads = kept.threads;
    objects = kept.objects;
    views = kept.views;
    lazies = kept.lazies;
    max_threads = kept.max_threads;
    yields = kept.yields;
    ordered = kept.ordered;
    bodies = map told_at kept.bodies;
  }

  -- and so each that was noted
  abbrev pub all_told : Noted D ℕ → Noted D (Word D)
  all_told noted = record { states = map told_in noted.states; led_by = noted.led_by; never = noted.never }

-- ---- runs of the closure that are recorded

module _ {D F : Type 0} (called : F → Teller D → Result D Stop → F → Teller D → Type 0) (limits : Limits) (f : F) (old : Answers D) (f' : F) (new : Answers D) where
  -- a recording that was true of a function stays so, if that does what the threads did in these runs
  abbrev pub StaysTrue : List (Made D) → Type 0
  StaysTrue real = (does : Function D) (words : List (Word D)) → IsTrueOf does words old → AreDone does real → (later : List (Word D)) × IsTrueOf does later new

  -- runs were made of the closure and recorded
  pub record Records : Type 0 where
    pub real : List (Made D)
    pub made : HasMade called limits f real f'
    pub stays : StaysTrue real

  -- one was, or none
  pub record RecordsMore : Type 0 where
    pub real : Option (Made D)
    pub made : MayHaveMade called limits f real f'
    pub stays : (does : Function D) (words : List (Word D)) → IsTrueOf does words old → IfSome real (λ m. IsDone does m.log.history) → (later : List (Word D)) × IsTrueOf does later new

  -- one was
  pub record RecordsRun : Type 0 where
    pub run : Made D
    pub made : HasMadeOne called limits f run f'
    pub stays : (does : Function D) (words : List (Word D)) → IsTrueOf does words old → IsDone does run.log.history → (later : List (Word D)) × IsTrueOf does later new

-- it isn't about settings, nor about a store
abbrev pub IsOfRun : RunnerError → Type 0
IsOfRun e = (why : CheckError) → e ≢ error.Settings why
