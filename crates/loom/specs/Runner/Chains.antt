-- Runs one after another, each of which begins where the search goes on from the one before it. Nothing is known of what their
-- threads will hand over: a run is its history.
use Rattle.std.specs.Prelude.{◌≡◌, ◌⊎◌, true, false, List, [], ◌∷◌, Option, Some, None, map, ⊤}
use Rattle.loom_views.specs.declared.rt.failure.FailureKind.TheVariants.{TooManySteps}
use Rattle.loom_objects.specs.declared.choice.Choice.{Choice}
use Rattle.loom_objects.specs.declared.failure.Failure.{Failure}
use Rattle.loom_objects.specs.declared.operation.Request.{Request}
use Rattle.loom_objects.specs.Tree.Tree.{Tree, Gives, Fails, ◌>>=◌}
use Rattle.loom_engine.specs.Walk.Machine.{Machine}
use Rattle.loom_engine.specs.Trees.Marks.{marking}
use Rattle.loom_engine.specs.Trees.Meeting.{Settings, machine_of}
use Rattle.loom_engine.specs.Runs.Course.{Course, opening}
use Rattle.loom_engine.specs.Runs.Machine.{submit}
use Rattle.loom_engine.specs.Runs.Body.{at_turn}
use Rattle.loom_engine.specs.Path.Route.{Route, at_rest, chosen, Steps}
use Rattle.loom_engine.specs.declared.rt.execution.Limits.{Limits}
use Rattle.loom.specs.declared.runner.history.event.Event.{Event}
use Rattle.loom.specs.Runner.Histories.{Moment, IsHistory, last_event, ended_by, failed_by}

-- from this path the search goes on to that one, or nothing is left that it tries
abbrev pub GoesTo : Route → Option Route → Type 0
GoesTo path (Some next) = Steps path.nodes true next.nodes × (next ≡ at_rest path.search path.explores next.nodes)
GoesTo path None = Steps path.nodes false []

-- a run: where it began, its history, and where it is
pub record Run (D : Type 0) : Type 0 where
  pub began : Route
  pub history : List (Event D)
  pub now : Moment D

module _ {D : Type 0} where
  -- what the run has chosen
  abbrev pub choices_of : Run D → List Choice
  choices_of r = chosen r.now.route

  -- The machine is handed these operations, one after another, whatever the replies, up to the end of the run. There are
  -- no further ones.
  unfoldable pub handing : List (Request D ⊤) → Course D → Tree D
  handing [] c = Fails TooManySteps
  handing (op ∷ ops) c = do
    turned ← submit op c
    at_turn (λ thread answer. handing ops turned.1) (λ value. Gives value) turned.0

  -- one of these runs
  abbrev pub IsAmong : Run D → List (Run D) → Type 0
  IsAmong r [] = ⊥
  IsAmong r (x ∷ runs) = (r ≡ x) ⊎ IsAmong r runs

module _ {D : Type 0} (limits : Limits) where
  -- the runs in which the machine is handed what it was handed in this one
  abbrev pub tree_of : Run D → Tree D
  tree_of r = handing (map (λ e. e.op) r.history) (opening r.began.explores limits.max_threads limits.max_steps)

  -- as the machine that a walk by these settings explores: which nodes this run met after its choices, which of their options are
  -- to be tried, and which it marks
  abbrev pub machine : Settings → Run D → Machine
  machine s r = machine_of s (marking s.bound) (tree_of r)

  -- it ended with main's result
  pub record HasEnded (r : Run D) : Type 0 where
    pub history : IsHistory limits r.began r.history r.now
    pub value : D
    pub ended : ended_by (last_event r.history) ≡ Some value

  -- its last event is this failure
  pub record HasFailed (r : Run D) (failure : Failure) : Type 0 where
    pub history : IsHistory limits r.began r.history r.now
    pub failed : failed_by (last_event r.history) ≡ Some failure

  -- Runs that ended, the newest first. The first one begins with this path, each other one with the path to which the search goes
  -- on from the run before it, and so does the next one, if there is one.
  abbrev pub Follow : Route → List (Run D) → Option Route → Type 0
  Follow path [] next = next ≡ Some path
  Follow path (r ∷ runs) next = Follow path runs (Some r.began) × HasEnded r × GoesTo r.now.route next
