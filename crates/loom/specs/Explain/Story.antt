-- A run told as events: which thread got which reply, and what it handed over then, after how many choices.
use Rattle.std.specs.Prelude.{ℕ, zero, suc, ◌≡◌, Bool, List, [], ◌∷◌, Option, Some, None, Ok, Err, slice_get, slice_set}
use Rattle.loom_views.specs.declared.rt.failure.FailureKind.TheVariants.{TooManySteps, Misuse}
use Rattle.loom_objects.specs.Operation.Labelled.{Op}
use Rattle.loom_objects.specs.declared.operation.Reply.{Reply}
use Rattle.loom_objects.specs.declared.operation.Reply.TheVariants as reply
use Rattle.loom_objects.specs.declared.operation.Turn.{Turn}
use Rattle.loom_objects.specs.Operation.Plain.{plain, started}
use Rattle.loom_engine.specs.Trees.Drive.{Trail, drive}
use Rattle.loom_engine.specs.Trees.Marks.{marking}
use Rattle.loom_engine.specs.Trees.Meeting.{Settings}
use Rattle.loom_engine.specs.Runs.Course.{Course, opening}
use Rattle.loom_engine.specs.Runs.Machine.{submit}
use Rattle.loom_engine.specs.Runs.Body.{Meaning, at_turn, runs, with_child}
use Rattle.loom_engine.specs.Path.Route.{Route, trail}
use Rattle.loom.specs.Model.Run.{Outcome}
use Rattle.loom_explain.specs.declared.event.Event.{Event}
use Rattle.loom_explain.specs.declared.event.End.{End}
use Rattle.loom_explain.specs.declared.event.End.TheVariants.{Ended, Failed}
use Rattle.loom.specs.declared.explain.events.telling.Told.{Told}
use Rattle.loom_objects.specs.Operation.Bare.{bare_op, bare_reply}

-- the events of a run, in order; how it ends, and the path after it
pub record Story (D : Type 0) : Type 0 where
  pub events : List Event
  pub comes : Outcome D

-- nothing more happens
abbrev pub nothing_more : {D : Type 0} → Outcome D → Story D
nothing_more comes = record { events = []; comes = comes }

-- The thread, which got this reply, hands over the operation, when the run has made so many choices.
abbrev pub event_of : {D S : Type 0} → ℕ → Reply D → Op D S → ℕ → Event
event_of thread answer op choices = record { thread = thread; told = bare_reply answer; op = bare_op op; choices_before = choices }

-- an event, and then the rest of the story
abbrev pub begins_with : {D : Type 0} → Event → Story D → Story D
begins_with event rest = record { events = event ∷ rest.events; comes = rest.comes }

-- what comes after an operation: the story goes on with the next turn, or the run is over
abbrev pub goes_on : {D : Type 0} → (Course D → Trail → ℕ → Reply D → Story D) → Outcome (Turn D × Course D) → Story D
goes_on rest (Ok (turned, c), path) = at_turn (rest c path) (λ value. nothing_more (Ok value, path)) turned
goes_on rest (Err kind, path) = nothing_more (Err kind, path)

-- a thread without a body hands nothing over
abbrev pub by_body : {D S : Type 0} → (S → Story D) → Trail → Option S → Story D
by_body rest path None = nothing_more (Err Misuse, path)
by_body rest path (Some body) = rest body

module _ {D S : Type 0} (s : Settings) where
  -- The body of a thread that got this reply hands over an operation and is in its next state. That is an event, and the operation
  -- is submitted along the path.
  abbrev pub hands_over : (List S → Course D → Trail → ℕ → Reply D → Story D) → List S → Course D → Trail → ℕ → Reply D → S × Op D S → Story D
  hands_over rest bodies c path thread answer (after, op) =
      begins_with (event_of thread answer op path.position)
      (goes_on (rest (with_child (slice_set bodies thread after) (started op))) (drive s (marking s.bound) (submit (plain op) c) path))

  -- The story of what is left of a run: the thread gets the reply, its body hands over its next operation, and so on to the
  -- run's end. The number bounds the operations to come. `runs` is made so too.
  unfoldable pub story : Meaning D S → ℕ → List S → Course D → Trail → ℕ → Reply D → Story D
  story next zero bodies c path thread answer = nothing_more (Err TooManySteps, path)
  story next (suc left) bodies c path thread answer =
      by_body (λ body. hands_over (story next left) bodies c path thread answer (next body answer)) path (slice_get bodies thread)

  -- the story of the body's run along the path
  abbrev pub story_of : Meaning D S → Bool → ℕ → ℕ → S → Trail → Story D
  story_of next explores max_threads max_steps body path = story next (suc max_steps) (body ∷ []) (opening explores max_threads max_steps) path 0 reply.Start

-- the story has these events, ends so, and leaves the path so
abbrev pub EndsAs : {D : Type 0} → Story D → List Event → End → Trail → Type 0
EndsAs {D} story events Ended path = (value : D) × (story ≡ record { events = events; comes = (Ok value, path) })
EndsAs {D} story events (Failed failure) path = story ≡ record { events = events; comes = (Err failure.kind, path) }

abbrev pub IsToldAs : {D : Type 0} → Story D → Told → Route → Type 0
IsToldAs story told path = EndsAs story told.events.items told.end (trail path)

-- The story of a body's run along a path has the outcome that its tree of runs has along that path.
abbrev pub StoryLaw : Type 0 → Type 0 → Type 0
StoryLaw D S = (s : Settings) (next : Meaning D S) (explores : Bool) (max_threads max_steps : ℕ) (body : S) (path : Trail)
    → (story_of s next explores max_threads max_steps body path).comes ≡ drive s (marking s.bound) (runs next explores max_threads max_steps body) path
