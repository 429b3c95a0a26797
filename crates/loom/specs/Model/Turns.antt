-- A run under way, and what its listener has heard: its story so far, and how that goes on.
use Rattle.std.specs.Prelude.{ℕ, suc, ◌≡◌, ⊤, List, ◌++◌, Ok, Err}
use Rattle.loom_objects.specs.Operation.Labelled.{Op}
use Rattle.loom_objects.specs.declared.operation.Reply.{Reply}
use Rattle.loom_engine.specs.declared.rt.execution.Progress.{Progress}
use Rattle.loom_engine.specs.Execution.{ShowsCourse}
use Rattle.loom_engine.specs.Path.Route.{Route, trail}
use Rattle.loom_engine.specs.Runs.Course.{Course}
use Rattle.loom_engine.specs.Runs.Body.{Meaning}
use Rattle.loom_explain.specs.declared.event.Event.{Event}
use Rattle.loom.specs.Explain.Story.{Story, story}
use Rattle.loom.specs.Model.Listening.{HasHeard}
use Rattle.loom.specs.declared.model.run.Ending.{Ending}
use Rattle.loom.specs.declared.model.run.Ending.TheVariants.{Ended, Failed}

-- the story with these events before it
abbrev pub behind : {D : Type 0} → List Event → Story D → Story D
behind events rest = record { events = events ++ rest.events; comes = rest.comes }

module _ {D S : Type 0} (next : Meaning D S) (whole : Story D) where
  -- A run under way, of which these events were heard: the thread is to get the reply, and from a course that the code's run
  -- shows along the path, the rest of the story completes the whole one.
  pub record IsUnderWay (events : List Event) (bodies : List S) (run : Progress D) (path : Route) (thread : ℕ) (answer : Reply D) : Type 0 where
    pub course : Course D
    pub shown : ShowsCourse course run path
    pub rest : behind events (story path.search next (suc course.world.steps_left) bodies course (trail path) thread answer) ≡ whole

-- the story has these events, and the run ends so, and leaves the path so
abbrev pub EndsWith : {D : Type 0} → Story D → List Event → Ending D → Route → Type 0
EndsWith whole events (Ended value) path = whole ≡ record { events = events; comes = (Ok value, trail path) }
EndsWith whole events (Failed failure) path = whole ≡ record { events = events; comes = (Err failure.kind, trail path) }

-- the run is this story, of which the listener heard each event, and ends so
abbrev pub IsHeardAs : {L D : Type 0} → (L → Reply ⊤ → L → Type 0) → (L → ℕ → Op ⊤ ⊤ → ℕ → L → Type 0) → Story D → L → L → Ending D → Route → Type 0
IsHeardAs takes_reply takes_op whole old new ending path = (events : List Event) × HasHeard takes_reply takes_op old events new × EndsWith whole events ending path
