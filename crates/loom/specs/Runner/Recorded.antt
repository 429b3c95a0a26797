-- What a check of recorded closures promises. A closure is a function of its replies if what it hands over rests on nothing but the
-- replies to its thread. For each such function that does what the threads did in the runs that the check has made of the closure, the
-- report is that of a check of the body which that function is (`ReportsRecorded`). So it is of a check that remembers states
-- (`CoversRecorded`), and of one by several workers (`FindsRecorded`).
use Rattle.std.specs.Prelude.{ℕ, ◌≡◌, ⊤, Bool, List, [], ◌∷◌, All, Option, Some, None, option_map, IfSome, Result, Ok, Err, slice_get, slice_set}
use Rattle.std.specs.declared.time.Duration.{Duration}
use Rattle.loom_objects.specs.Operation.Labelled.{Op}
use Rattle.loom_objects.specs.Operation.Plain.{map_started, started_request}
use Rattle.loom_objects.specs.Tree.Tree.{Tree}
use Rattle.loom_objects.specs.declared.choice.Choice.{Choice}
use Rattle.loom_objects.specs.declared.failure.Failure.{Failure}
use Rattle.loom_objects.specs.declared.operation.Request.{Request}
use Rattle.loom_objects.specs.declared.operation.Reply.{Reply}
use Rattle.loom_objects.specs.declared.operation.Reply.TheVariants as reply
use Rattle.loom_objects.specs.declared.operation.Turn.{Turn}
use Rattle.loom_objects.specs.declared.operation.Turn.TheVariants as turn
use Rattle.loom_engine.specs.Runs.Body.{Meaning, runs, with_child}
use Rattle.loom_engine.specs.declared.rt.execution.Limits.{Limits}
use Rattle.loom.specs.declared.model.builder.Builder.{Builder}
use Rattle.loom.specs.declared.model.report.Report.{Report}
use Rattle.loom.specs.declared.model.cover.Covered.{Covered}
use Rattle.loom.specs.Model.Check.{Reports}
use Rattle.loom.specs.Model.CoverStores.{StillHolds}
use Rattle.loom.specs.Model.Covered.{Covering}
use Rattle.loom.specs.Model.Parts.{Works}
use Rattle.loom.specs.Model.Settings.{explores}
use Rattle.loom.specs.declared.model.parts.Worked.{Worked}
use Rattle.loom_engine.specs.declared.rt.parts.Part.{Part}
use Rattle.loom_engine.specs.declared.rt.parts.Parts.{Parts}
use Rattle.loom.specs.declared.runner.stop.Stop.{Stop}
use Rattle.loom.specs.declared.runner.history.event.Event.{Event}
use Rattle.loom.specs.declared.runner.parallel.Found.{Found}
use Rattle.loom.specs.Runner.Check.{limits_of}
use Rattle.loom.specs.Runner.Handle.{Teller, newcomer}
use Rattle.loom.specs.Runner.Made.{Made, Settled}
use Rattle.loom.specs.Runner.Parallel.{Finds}

-- ---- a closure as a function of its replies

-- one thing that a thread was told: a reply, or that it begins, behind what its parent was told
pub data Step (D : Type 0) : Type 0 where
  tells : Reply D → Step D
  spawned : Step D

-- all that a thread was told so far, the newest first
abbrev pub Word : Type 0 → Type 0
Word D = List (Step D)

-- what a thread hands over once it was told that
abbrev pub Function : Type 0 → Type 0
Function D = Word D → Request D ⊤

-- the operation, of which this is what a spawn starts
abbrev pub starting : {D S : Type 0} → S → Request D ⊤ → Request D S
starting child op = map_started (λ none. child) op

module _ {D : Type 0} where
  -- a thread that was told this hands over this operation, which may start a thread
  abbrev pub hands_over : Word D → Request D ⊤ → Word D × Op D (Word D)
  hands_over word op = (word, record { request = starting (spawned ∷ word) op; label = None })

  -- the body that a function is: its state is what its thread was told
  abbrev pub by_function : Function D → Meaning D (Word D)
  by_function does word answer = hands_over (tells answer ∷ word) (does (tells answer ∷ word))

  -- its runs; main begins with nothing told
  abbrev pub runs_by : Function D → Bool → ℕ → ℕ → Tree D
  runs_by does explores max_threads max_steps = runs (by_function does) explores max_threads max_steps []

  -- what the thread is told that the operation starts, if it starts one
  abbrev pub begun_by : Request D ⊤ → Word D → Option (Word D)
  begun_by op word = option_map (λ none. spawned ∷ word) (started_request op)

  -- ---- what was done in a run

  -- what comes after an event: the thread whose turn it is gets its reply, or the run is over
  abbrev pub GoesOn : (List (Word D) → ℕ → Reply D → Type 0) → List (Word D) → Result (Turn D) Failure → Type 0
  GoesOn rest words (Ok (turn.Reply thread answer)) = rest words thread answer
  GoesOn rest words (Ok (turn.Start thread)) = rest words thread reply.Start
  GoesOn rest words (Ok (turn.Ended value)) = Unit {0}
  GoesOn rest words (Err failure) = Unit {0}

  -- The threads were told this so far, and this thread gets the reply. It hands over by the function what the first of these
  -- events says, and so on to the last one.
  abbrev pub Does : Function D → List (Event D) → List (Word D) → ℕ → Reply D → Type 0
  Does does [] words thread answer = Unit {0}
  Does does (e ∷ es) words thread answer =
      IfSome (slice_get words thread) (λ word. (does (tells answer ∷ word) ≡ e.op) × GoesOn (Does does es) (with_child (slice_set words thread (tells answer ∷ word)) (begun_by e.op (tells answer ∷ word))) e.outcome)

  -- the function does what the threads did in a run of this history
  abbrev pub IsDone : Function D → List (Event D) → Type 0
  IsDone does history = Does does history ([] ∷ []) 0 reply.Start

-- ---- the check

module _ {D F : Type 0} (called : F → Teller D → Result D Stop → F → Teller D → Type 0) (limits : Limits) where
  -- a call of the closure on main's handle has made this run
  abbrev pub HasMadeOne : F → Made D → F → Type 0
  HasMadeOne f m f' = called f (newcomer 0) m.answer f' m.handle × Settled limits m

  -- or no run was made
  abbrev pub MayHaveMade : F → Option (Made D) → F → Type 0
  MayHaveMade f None f' = f' ≡ f
  MayHaveMade f (Some m) f' = HasMadeOne f m f'

  -- calls of the closure have made these runs, one after another, the newest first
  abbrev pub HasMade : F → List (Made D) → F → Type 0
  HasMade f [] f' = f' ≡ f
  HasMade f (m ∷ ms) f' = (g : F) × HasMade f ms g × HasMadeOne g m f'

-- the function does what the threads did in each of these runs
abbrev pub AreDone : {D : Type 0} → Function D → List (Made D) → Type 0
AreDone does runs = All (λ m. IsDone does m.log.history) runs

-- What a check says that has recorded this closure and remembers states, and of what the visitor was given: where the store gave what it
-- may give, and holds what it may hold, and where the clock has answered so.
pub record CoversRecorded {D F V : Type 0} (called : F → Teller D → Result D Stop → F → Teller D → Type 0) (takes : V → List Choice → D → V → Type 0) (b : Builder) (f : F) (v v' : V)
    (gives holds : Option (List ℕ) → Type 0) (answered : Duration → Type 0) (covered : Covered) : Type 0 where
  -- the runs that were made of the closure
  pub real : List (Made D)
  pub after : F
  pub made : HasMade called (limits_of b) f real after
  -- each function that does what the threads did in these is covered as a body
  pub as_body : (does : Function D) → AreDone does real → Covering takes v v' b (by_function does) [] gives holds answered covered

-- After an error of such a check a store may hold what it held before, or a text of a path to which the check has come.
pub record StillHoldsRecorded {D F : Type 0} (called : F → Teller D → Result D Stop → F → Teller D → Type 0) (b : Builder) (f : F) (gives old new : Option (List ℕ) → Type 0) : Type 0 where
  -- the runs that were made of the closure
  pub real : List (Made D)
  pub after : F
  pub made : HasMade called (limits_of b) f real after
  -- the path is one of a check of each function that does what the threads did in these
  pub as_body : (does : Function D) → AreDone does real → StillHolds b (by_function does) [] gives old new

-- How the work on a part of a search of this closure went, and what the visitor was given.
pub record WorksRecorded {D F V : Type 0} (called : F → Teller D → Result D Stop → F → Teller D → Type 0) (takes : V → List Choice → D → V → Type 0) (b : Builder) (f : F) (v v' : V) (part later : Part)
    (worked : Worked) : Type 0 where
  -- the runs that were made of the closure
  pub real : List (Made D)
  pub after : F
  pub made : HasMade called (limits_of b) f real after
  -- all runs are those of each function that does what the threads did in these
  pub as_body : (does : Function D) → AreDone does real → Works takes v v' b (runs_by does (explores b) b.max_threads b.max_steps) part later worked

-- What a report says of a check that has recorded this closure, and of what the visitor was given: where the store gave what it may
-- give, and holds what it may hold, and where the clock has answered so.
pub record ReportsRecorded {D F V : Type 0} (called : F → Teller D → Result D Stop → F → Teller D → Type 0) (takes : V → List Choice → D → V → Type 0) (b : Builder) (f : F) (v v' : V)
    (gives holds : Option (List ℕ) → Type 0) (answered : Duration → Type 0) (report : Report) : Type 0 where
  -- the runs that were made of the closure
  pub real : List (Made D)
  pub after : F
  pub made : HasMade called (limits_of b) f real after
  -- all runs are those of each function that does what the threads did in these
  pub as_body : (does : Function D) → AreDone does real → Reports takes v v' b (runs_by does (explores b) b.max_threads b.max_steps) gives holds answered report

-- What several workers found of this closure, from one list of parts on, up to another, and of what the visitors were given that were
-- joined: where the clock has answered so.
pub record FindsRecorded {D F G V : Type 0} (called : F → Teller D → Result D Stop → F → Teller D → Type 0) (takes : V → List Choice → D → V → Type 0) (is_new : V → Type 0) (joins : G → V → G → Type 0)
    (b : Builder) (f : F) (answered : Duration → Type 0) (before later : Parts) (old new : G) (found : Found) : Type 0 where
  -- the runs that were made of the closure
  pub real : List (Made D)
  pub after : F
  pub made : HasMade called (limits_of b) f real after
  -- all runs are those of each function that does what the threads did in these
  pub as_body : (does : Function D) → AreDone does real → Finds takes is_new joins b (runs_by does (explores b) b.max_threads b.max_steps) answered before later old new found
