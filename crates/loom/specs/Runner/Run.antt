-- How one run of a closure ended, and what is done with it.
use Rattle.std.specs.Prelude.{◌≡◌, List, Some, Result}
use Rattle.loom_objects.specs.declared.choice.Choice.{Choice}
use Rattle.loom_objects.specs.declared.failure.Failure.{Failure}
use Rattle.loom_engine.specs.declared.rt.execution.Limits.{Limits}
use Rattle.loom_engine.specs.Path.Route.{Route, chosen}
use Rattle.loom.specs.declared.runner.stop.Stop.{Stop}
use Rattle.loom.specs.declared.runner.run_end.RunEnd.{RunEnd}
use Rattle.loom.specs.declared.runner.run_end.RunEnd.TheVariants.{Failed, Ended}
use Rattle.loom.specs.Runner.Histories.{Log, Share, IsHistory, Settles, last_event, ended_by, failed_by}
use Rattle.loom.specs.Runner.Handle.{Teller, Leading, Closes, newcomer}
use Rattle.loom.specs.Runner.Chains.{GoesTo}
use Rattle.loom.specs.Runner.Made.{Made, MadeBy, Given}

-- the closure was called with a new handle, which was closed by its answer, and these are the told lists of all threads, main first
pub record WasCalled {D F : Type 0} (called : F → Teller D → Result D Stop → F → Teller D → Type 0) (f f' : F) (told : List (Share D)) : Type 0 where
  pub handle : Teller D
  pub answer : Result D Stop
  pub call : called f (newcomer 0) answer f' handle
  pub main : Leading handle.thread told (Closes handle.told answer)

-- the state at the end of a run is settled
pub record Checked {D : Type 0} (limits : Limits) (began : Route) (log : Log D) (told : List (Share D)) : Type 0 where
  pub settles : Settles log began limits told
  pub history : IsHistory limits began log.history log.now

-- and the visitor was given its choices and its result
pub record Gave {D V : Type 0} (takes : V → List Choice → D → V → Type 0) (v : V) (log : Log D) (v' : V) : Type 0 where
  pub value : D
  pub ended : ended_by (last_event log.history) ≡ Some value
  pub taken : takes v (chosen log.now.route) value v'

-- the run failed so, under these choices
abbrev pub HasFailed : {D : Type 0} → Log D → Failure → List Choice → Type 0
HasFailed log failure choices = (failed_by (last_event log.history) ≡ Some failure) × (choices ≡ chosen log.now.route)

-- How a run ended by the state at its end: it failed, or the visitor was given it, and the search goes on from its path.
module _ {D V : Type 0} (takes : V → List Choice → D → V → Type 0) (limits : Limits) where
  abbrev pub Judged : V → Route → Log D → List (Share D) → RunEnd → V → Type 0
  Judged v began log told (Failed failure choices) v' = Checked limits began log told × HasFailed log failure choices.items × (v' ≡ v)
  Judged v began log told (Ended next) v' = Checked limits began log told × Gave takes v log v' × GoesTo log.now.route next

-- How a run ended that a call of the closure has made from this path on.
module _ {D F V : Type 0} (called : F → Teller D → Result D Stop → F → Teller D → Type 0) (takes : V → List Choice → D → V → Type 0) (limits : Limits) where
  abbrev pub WasMade : F → V → Route → RunEnd → F → V → Type 0
  WasMade f v began (Failed failure choices) f' v' = (m : Made D) × (m.began ≡ began) × MadeBy called takes limits f m f' × HasFailed m.log failure choices.items × (v' ≡ v)
  WasMade f v began (Ended next) f' v' = (m : Made D) × (m.began ≡ began) × Given called takes limits f v m f' v' × GoesTo m.log.now.route next
