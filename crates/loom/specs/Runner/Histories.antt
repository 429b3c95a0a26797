-- The history of a run that threads make, and the state that they share.
use Rattle.std.specs.Prelude.{ℕ, ◌≡◌, ◌≢◌, ◌<◌, ◌⊎◌, ◌++◌, ⊤, Bool, false, List, [], ◌∷◌, length, Option, Some, None, option_map, MatchOption, Result, Err, slice_get}
use Rattle.loom_objects.specs.declared.failure.Stop.{Stop as Halt}
use Rattle.loom_objects.specs.declared.failure.Stop.TheVariants as halt
use Rattle.loom_objects.specs.declared.operation.Request.{Request}
use Rattle.loom_objects.specs.declared.operation.Reply.{Reply}
use Rattle.loom_objects.specs.declared.operation.Turn.{Turn}
use Rattle.loom_engine.specs.Path.Route.{Route, IsSameSearch}
use Rattle.loom_engine.specs.Runs.Course.{opening}
use Rattle.loom_engine.specs.Runs.Machine.{submit}
use Rattle.loom_engine.specs.declared.rt.execution.Limits.{Limits}
use Rattle.loom_engine.specs.declared.rt.execution.Progress.{Progress}
use Rattle.loom_engine.specs.Execution.{ExecutionState, ShowsCourse, Along, Submits, over_after}
use Rattle.loom.specs.declared.runner.stop.Stop.{Stop}
use Rattle.loom.specs.declared.runner.stop.Stop.TheVariants as stop
use Rattle.loom.specs.declared.runner.history.event.Event.{Event}
use Rattle.loom_objects.specs.declared.failure.Failure.{Failure}
use Rattle.loom_objects.specs.declared.label.Label.{Label}
pub use Rattle.loom.specs.Runner.Events.{answered, end_after, ended, ended_by, end_in, entry, failed_by, failing, IsNotAdded, IsReplied, last_event, made, or_else, outcome_by, part, Share, share, start_in, turn_in}

-- ---- events

-- where a run is: its execution, and its path
pub record Moment (D : Type 0) : Type 0 where
  pub state : ExecutionState D
  pub route : Route

module _ {D : Type 0} where
  abbrev pub moment : ExecutionState D → Route → Moment D
  moment state route = record { state = state; route = route }

  -- One event of the machine along the path: the operation is handed over, up to the next turn, or the run fails. The run goes
  -- on before it, and is over after it where the machine says so. What the path's search tries stays.
  pub record Happens (m : Moment D) (op : Request D ⊤) (out : Result (Turn D) Failure) (n : Moment D) : Type 0 where
    pub live : m.state.over ≡ None
    pub along : Along (submit op) m.state.run m.route (answered out) n.state.run n.route
    pub over : n.state.over ≡ over_after (answered out)
    pub search : IsSameSearch m.route n.route

  -- what a call of the machine says of it
  abbrev pub Handed : Moment D → Request D ⊤ → Result (Turn D) Halt → Moment D → Type 0
  Handed m op answer n = Submits m.state op m.route answer n.state n.route × IsSameSearch m.route n.route

  -- the thread whose turn it is
  abbrev pub active_at : Moment D → ℕ
  active_at m = m.state.run.state.scene.active

  -- how many choices were made
  abbrev pub passed_at : Moment D → ℕ
  passed_at m = m.route.position

  -- the event is of this moment: of the thread whose turn it is, once so many choices were made
  abbrev pub IsOf : Moment D → Event D → Type 0
  IsOf m e = (e.by ≡ active_at m) × (e.choices_before ≡ passed_at m)

  -- the events lead from one moment to another, each of them by the thread whose turn it is
  abbrev pub Leads : Moment D → List (Event D) → Moment D → Type 0
  Leads m [] n = n ≡ m
  Leads m (e ∷ es) n = (mid : Moment D) × IsOf m e × Happens m e.op e.outcome mid × Leads mid es n

  -- the moment before any event
  abbrev pub first : Progress D → Route → Moment D
  first start began = moment (record { run = start; over = None }) began

  -- the history of a run within these limits that began with this path: it leads from the opening to this moment
  pub record IsHistory (limits : Limits) (began : Route) (history : List (Event D)) (now : Moment D) : Type 0 where
    pub start : Progress D
    pub opens : ShowsCourse (opening began.explores limits.max_threads limits.max_steps) start began
    pub leads : Leads (first start began) history now

-- ---- the state that threads share

-- where the run began, its limits, its history, how many threads there are, why it was spoiled, where it is, and whether its choices are
-- drawn as it reaches them (`specs/Runner/Drawn.antt` says what is known then)
pub record Log (D : Type 0) : Type 0 where
  pub began : Route
  pub limits : Limits
  pub history : List (Event D)
  pub threads : ℕ
  pub spoiled : Option Stop
  pub now : Moment D
  pub drawn : Bool

module _ {D : Type 0} where
  -- Where the run isn't spoiled the history leads from its beginning to where it is, and it is over where the last event says so.
  pub record Kept (limits : Limits) (began : Route) (history : List (Event D)) (spoiled : Option Stop) (now : Moment D) : Type 0 where
    pub leads : spoiled ≡ None → IsHistory limits began history now
    pub over : spoiled ≡ None → now.state.over ≡ option_map halt.Failure (end_in history)

  -- why the run goes no further: it is spoiled, or over
  abbrev pub why_stopped : Log D → Option Stop
  why_stopped log = or_else log.spoiled (option_map stop.Failure (end_in log.history))

  -- a thread has nothing to wait for: the run goes no further, or its turn has come
  abbrev pub IsDecided : Log D → ℕ → Type 0
  IsDecided log n = (why_stopped log ≢ None) ⊎ (turn_in log.history ≡ Some n)

  -- what a thread is answered: the stop, or what the last event has for it
  abbrev pub Answers : Log D → ℕ → Result (Reply D) Stop → Type 0
  Answers log n result = MatchOption (why_stopped log) (IsReplied n log.history result) (λ s. result ≡ Err s)

  -- a thread starts: the run goes on, and its last event says so
  abbrev pub Starts : Log D → ℕ → Type 0
  Starts log n = (why_stopped log ≡ None) × (start_in log.history ≡ Some n)

  -- the event of this operation and label, by the thread whose turn it is, leads from one moment to the other
  pub record Goes (m : Moment D) (op : Request D ⊤) (label : Option Label) (e : Event D) (n : Moment D) : Type 0 where
    pub asked : e.op ≡ op
    pub labelled : e.label ≡ label
    pub of : IsOf m e
    pub happens : Happens m op e.outcome n

  -- the history goes on by one event, of this operation and label
  pub record Adds (log : Log D) (op : Request D ⊤) (label : Option Label) (log' : Log D) : Type 0 where
    pub event : Event D
    pub goes : Goes log.now op label event log'.now
    pub history : log'.history ≡ log.history ++ event ∷ []

  -- the run began so and followed its path, and each thread's operations and replies are its part of the history
  pub record Settles (log : Log D) (began : Route) (limits : Limits) (told : List (Share D)) : Type 0 where
    pub follows : log.drawn ≡ false
    pub began_so : log.began ≡ began
    pub limits_so : log.limits ≡ limits
    pub one_each : length told ≡ log.threads
    pub parts : (n : ℕ) → n < log.threads → slice_get told n ≡ Some (share n (part n log.history))
