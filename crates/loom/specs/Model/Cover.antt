-- A search that remembers states: its runs, and what its report says.
use Rattle.std.specs.Prelude.{ℕ, suc, ◌≡◌, ◌⊎◌, Bool, true, List, slice_get, Option, Some, None, Result, Ok, Err}
use Rattle.loom_views.specs.declared.rt.failure.FailureKind.{FailureKind}
use Rattle.loom_views.specs.declared.rt.views.Views.{Views}
use Rattle.loom_views.specs.InOrder.{IsInOrder}
use Rattle.loom_objects.specs.declared.failure.Stop.{Stop}
use Rattle.loom_objects.specs.declared.failure.Stop.TheVariants.{Failure as Because, Memory}
use Rattle.loom_objects.specs.declared.operation.Reply.{Reply}
use Rattle.loom_objects.specs.declared.operation.Reply.TheVariants as reply
use Rattle.loom_objects.specs.declared.operation.Turn.{Turn}
use Rattle.loom_objects.specs.declared.operation.Turn.TheVariants as turn
use Rattle.loom_objects.specs.Exploring.{is_on}
use Rattle.loom_objects.specs.Operation.Labelled.{Op}
use Rattle.loom_engine.specs.declared.rt.execution.Progress.{Progress}
use Rattle.loom_engine.specs.declared.rt.states.State.{State as Kept}
use Rattle.loom_engine.specs.Execution.{ExecutionState, Schedules, ShowsCourse}
use Rattle.loom_engine.specs.Path.Route.{Route, chosen, stored, trail}
use Rattle.loom_engine.specs.Runs.Body.{Meaning}
use Rattle.loom_engine.specs.Runs.Course.{Course}
use Rattle.loom_engine.specs.Trees.Drive.{is_used_up}
use Rattle.loom_engine.specs.Trees.Marks.{marking}
use Rattle.loom_engine.specs.Trees.Meeting.{whole_search}
use Rattle.loom_engine.specs.Walk.Path.{Stored}
use Rattle.loom_engine.specs.Covering.Kept.{AreKeptAfter, Noted, NotesAs, state_in}
use Rattle.loom_engine.specs.Covering.UnderWay as under
use Rattle.loom.specs.declared.model.cover.run.Ending.{Ending}
use Rattle.loom.specs.declared.model.cover.run.Ending.TheVariants.{Ended, Met, Failed}
use Rattle.loom.specs.declared.model.cover.run.Found.{Found}
use Rattle.loom.specs.declared.model.cover.run.Found.TheVariants.{Known, New}
use Rattle.loom.specs.declared.model.cover.run.Halt.{Halt}
use Rattle.loom.specs.declared.model.cover.run.Halt.TheVariants as halt

-- A run that notes states: how many nodes it may have, how it begins, its body, the path that it follows, and the states that were
-- noted before it.
pub record Noting (D S : Type 0) : Type 0 where
  pub room : ℕ
  pub explores : Bool
  pub max_threads : ℕ
  pub max_steps : ℕ
  pub body : S
  pub path : List Stored
  pub old : Noted D S

-- one with these limits, that begins at this path
abbrev pub noting : {D S : Type 0} → ℕ → ℕ → S → Route → Noted D S → Noting D S
noting max_threads max_steps body path old = record {
  room = path.search.max_branches;
  explores = path.explores;
  max_threads = max_threads;
  max_steps = max_steps;
  body = body;
  path = stored path.nodes;
  old = old;
}

module _ {D S : Type 0} (next : Meaning D S) (run : Noting D S) where
  -- what was noted before it are the states after the choices beside them
  abbrev pub AreNoted : Type 0
  AreNoted = AreKeptAfter (under.key run.room (marking None) next run.explores run.max_threads run.max_steps run.body run.path run.old) run.old

  -- what was noted are states of earlier runs, and of the path's nodes
  abbrev pub IsTabled : Noted D S → Route → Type 0
  IsTabled noted path = under.Tables run.room (marking None) next run.explores run.max_threads run.max_steps run.body run.path run.old noted (trail path)

  -- the run has left the path and what was noted so: it ended so, or was given up
  abbrev pub Leaves : Result (Option D) FailureKind → Route → Noted D S → Type 0
  Leaves came path noted = under.Leaves run.room (marking None) next run.explores run.max_threads run.max_steps run.body run.path run.old came (trail path) noted

  -- the thread is to get the reply
  pub record IsUnderWay (bodies : List S) (progress : Progress D) (path : Route) (thread : ℕ) (answer : Reply D) (noted : Noted D S) : Type 0 where
    pub course : Course D
    pub shown : ShowsCourse course progress path
    pub at : under.AtTurn run.room (marking None) next run.explores run.max_threads run.max_steps run.body run.path run.old (trail path) (suc course.world.steps_left) bodies course thread answer
    pub tables : IsTabled noted path
    pub whole : path.search ≡ whole_search run.room

  -- the active thread hands over an operation
  pub record IsHanding (bodies : List S) (progress : Progress D) (path : Route) (op : Op D S) (noted : Noted D S) : Type 0 where
    pub course : Course D
    pub shown : ShowsCourse course progress path
    pub at : under.IsHanding run.room (marking None) next run.explores run.max_threads run.max_steps run.body run.path run.old (trail path) course.world.steps_left bodies course op
    pub tables : IsTabled noted path
    pub whole : path.search ≡ whole_search run.room

  -- its operation has reached its branch point
  pub record IsAtBranch (bodies : List S) (progress : Progress D) (path : Route) (noted : Noted D S) : Type 0 where
    pub course : Course D
    pub shown : ShowsCourse course progress path
    pub at : under.AtBranch run.room (marking None) next run.explores run.max_threads run.max_steps run.body run.path run.old (trail path) (suc course.world.steps_left) bodies course
    pub tables : IsTabled noted path
    pub whole : path.search ≡ whole_search run.room

  -- it was given up in the state of this number
  abbrev pub Meets : ℕ → Route → Noted D S → Type 0
  Meets number path noted = Leaves (Ok None) path noted × under.EndsIn run.room (marking None) next run.explores run.max_threads run.max_steps run.body run.path run.old number (trail path) noted

  -- what an event comes to
  abbrev pub ComesTo : Result (Turn D) Halt → List S → Progress D → Route → Noted D S → Type 0
  ComesTo (Ok (turn.Reply thread answer)) bodies progress path noted = IsUnderWay bodies progress path thread answer noted
  ComesTo (Ok (turn.Start thread)) bodies progress path noted = IsUnderWay bodies progress path thread reply.Start noted
  ComesTo (Ok (turn.Ended value)) bodies progress path noted = Leaves (Ok (Some value)) path noted
  ComesTo (Err (halt.Met number)) bodies progress path noted = Meets number path noted
  ComesTo (Err (halt.Stopped (Because failure))) bodies progress path noted = Leaves (Err failure.kind) path noted
  ComesTo (Err (halt.Stopped Memory)) bodies progress path noted = Unit {0}

  -- and the run
  abbrev pub EndsWith : Ending D → Route → Noted D S → Type 0
  EndsWith (Ended value) path noted = Leaves (Ok (Some value)) path noted
  EndsWith (Met number) path noted = Meets number path noted
  EndsWith (Failed failure) path noted = Leaves (Err failure.kind) path noted

-- Where a run is, its state is looked up, if it explores past its path's nodes: it was noted under this number, or is noted now if
-- there may be one more. Elsewhere nothing is looked up.
abbrev pub LooksUp : {D S : Type 0} → Kept D S → Route → Noted D S → Found → Noted D S → Type 0
LooksUp state path old (Known number) new = (is_on path.exploring ≡ true) × (is_used_up (trail path) ≡ true) × (slice_get old.states number ≡ Some state) × (new ≡ old)
LooksUp state path old New new = ((is_on path.exploring ≡ true) × (is_used_up (trail path) ≡ true) × NotesAs state (chosen path) old new) ⊎ (new ≡ old)

-- Its state is known by views in the order of its own.
pub record LooksUpRun {D S : Type 0} (run : Progress D) (bodies : List S) (path : Route) (old : Noted D S) (found : Found) (new : Noted D S) : Type 0 where
  pub views : Views
  pub order : IsInOrder run.state.scene.views views
  pub looks : LooksUp (state_in old.never run bodies views) path old found new

-- A run is at a branch point, with these bodies. Its state was noted before, and it is given up; or it is noted or isn't, and the
-- schedule is made.
abbrev pub Passes : {D S : Type 0} → List S → ExecutionState D → Route → Noted D S → Result (Turn D) Halt → ExecutionState D → Route → Noted D S → Type 0
Passes bodies old path noted (Ok turn) new after more = LooksUpRun old.run bodies path noted New more × Schedules old path (Ok turn) new after
Passes bodies old path noted (Err (halt.Met number)) new after more = LooksUpRun old.run bodies path noted (Known number) more × (after ≡ path)
Passes bodies old path noted (Err (halt.Stopped (Because failure))) new after more = Schedules old path (Err (Because failure)) new after
Passes bodies old path noted (Err (halt.Stopped Memory)) new after more = Unit {0}

-- a run that is stopped by a failure ends with it
abbrev pub IsEndOf : {D : Type 0} → Stop → Ending D → Type 0
IsEndOf (Because failure) ending = ending ≡ Failed failure
IsEndOf Memory ending = ⊥

-- a run whose last operation was answered so ends by that: by a failure, with main's value, or since its state was met
abbrev pub IsEndBy : {D : Type 0} → Result (Turn D) Halt → Ending D → Type 0
IsEndBy (Err (halt.Met number)) ending = ending ≡ Met number
IsEndBy (Err (halt.Stopped stop)) ending = IsEndOf stop ending
IsEndBy (Ok (turn.Ended value)) ending = ending ≡ Ended value
IsEndBy (Ok (turn.Reply thread answer)) ending = ⊥
IsEndBy (Ok (turn.Start thread)) ending = ⊥

-- where the run goes on, its execution isn't over
abbrev pub StaysOpen : {D : Type 0} → Result (Turn D) Halt → Option Stop → Type 0
StaysOpen (Ok (turn.Reply thread answer)) over = over ≡ None
StaysOpen (Ok (turn.Start thread)) over = over ≡ None
StaysOpen (Ok (turn.Ended value)) over = Unit {0}
StaysOpen (Err reason) over = Unit {0}
