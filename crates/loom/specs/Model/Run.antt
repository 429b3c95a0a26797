-- One run along a path: what it comes to, and how it ends.
use Rattle.std.specs.Prelude.{◌≡◌, ◌≢◌, ◌⊎◌, Bool, false, None, Result, Ok, Err}
use Rattle.loom_views.specs.declared.rt.failure.FailureKind.{FailureKind}
use Rattle.loom_objects.specs.declared.failure.Stop.{Stop}
use Rattle.loom_objects.specs.declared.failure.Stop.TheVariants.{Failure as Because, Memory}
use Rattle.loom_objects.specs.Operation.Labelled.{Op}
use Rattle.loom_objects.specs.Operation.Plain.{plain, started}
use Rattle.loom_objects.specs.declared.operation.Turn.{Turn}
use Rattle.loom_objects.specs.declared.operation.Turn.TheVariants as turn
use Rattle.loom_objects.specs.Tree.Tree.{Tree}
use Rattle.loom_engine.specs.declared.rt.execution.Progress.{Progress}
use Rattle.loom_engine.specs.Execution.{MayBeRefused}
use Rattle.loom_engine.specs.Path.Route.{Route, trail, drives}
use Rattle.loom_engine.specs.Trees.Drive.{Trail}
use Rattle.loom.specs.declared.model.run.Ending.{Ending}
use Rattle.loom.specs.declared.model.run.Ending.TheVariants.{Ended, Failed}

-- how a run ended, and the path after it
abbrev pub Outcome : Type 0 → Type 0
Outcome D = Result D FailureKind × Trail

-- the run of the tree along the path ends so, and leaves the path so
abbrev pub RunsAlong : {D : Type 0} → Tree D → Route → Ending D → Route → Type 0
RunsAlong tree old (Ended value) new = drives tree old ≡ (Ok value, trail new)
RunsAlong tree old (Failed failure) new = drives tree old ≡ (Err failure.kind, trail new)

-- where no places are kept a failure has none
abbrev pub IsLocated : {D : Type 0} → Bool → Ending D → Type 0
IsLocated keeps (Ended value) = Unit {0}
IsLocated keeps (Failed failure) = keeps ≡ false → failure.location ≡ None

-- a run that is stopped by a failure ends with one of its kind
abbrev pub IsEndOf : {D : Type 0} → Stop → Ending D → Type 0
IsEndOf (Because failure) (Failed placed) = placed.kind ≡ failure.kind
IsEndOf (Because failure) (Ended value) = ⊥
IsEndOf Memory ending = ⊥

-- a run whose last operation was answered so ends by that: by a failure, or with main's value
abbrev pub IsEndBy : {D : Type 0} → Result (Turn D) Stop → Ending D → Type 0
IsEndBy (Err stop) ending = IsEndOf stop ending
IsEndBy (Ok (turn.Ended value)) ending = ending ≡ Ended value
IsEndBy (Ok (turn.Reply thread answer)) ending = ⊥
IsEndBy (Ok (turn.Start thread)) ending = ⊥

-- memory may be refused at an operation that a body hands over: the event needs it, or what it starts is a body more
abbrev pub MayBeRefusedBy : {D S : Type 0} → Op D S → Progress D → Route → Type 0
MayBeRefusedBy op run path = MayBeRefused (plain op) run path ⊎ (started op ≢ None)
