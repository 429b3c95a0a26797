-- A closure that gets the same replies does the same: what a check of closures says of each run and of the one before it, as far as both
-- have made the same choices.
use Rattle.std.specs.Prelude.{ℕ, ◌≡◌, ◌≢◌, ◌+◌, ◌<◌, List, [], ◌∷◌, length, Some, Result, slice_get, zero, suc}
use Rattle.loom_views.specs.declared.rt.failure.FailureKind.TheVariants.{NotDeterministic}
use Rattle.loom_objects.specs.declared.choice.Choice.{Choice}
use Rattle.loom_objects.specs.declared.failure.Failure.{Failure}
use Rattle.loom_objects.specs.Operation.Bare.{bare_request}
use Rattle.loom_engine.specs.declared.rt.execution.Limits.{Limits}
use Rattle.loom_engine.specs.Path.Route.{chosen}
use Rattle.loom.specs.declared.model.report.Report.{Report}
use Rattle.loom.specs.declared.model.report.Report.TheVariants as report
use Rattle.loom.specs.declared.runner.error.Changed.{Changed}
use Rattle.loom.specs.declared.runner.error.RunnerError.{RunnerError}
use Rattle.loom.specs.declared.runner.error.RunnerError.TheVariants as error
use Rattle.loom.specs.declared.runner.history.event.Event.{Event}
use Rattle.loom.specs.declared.runner.run_end.RunEnd.{RunEnd}
use Rattle.loom.specs.declared.runner.run_end.RunEnd.TheVariants.{Failed, Ended}
use Rattle.loom.specs.declared.runner.stop.Stop.{Stop}
use Rattle.loom.specs.Runner.Handle.{Teller}
use Rattle.loom.specs.Runner.Histories.{Log, last_event, failed_by}
use Rattle.loom.specs.Runner.Made.{Made, MadeBy}

-- ---- two runs

-- what is compared of a run: its choices, and its events
pub record Trace (D : Type 0) : Type 0 where
  pub choices : List Choice
  pub events : List (Event D)

-- the first n choices of both are the same
abbrev pub Shares : ℕ → List Choice → List Choice → Type 0
Shares zero cs ds = Unit {0}
Shares (suc n) [] ds = ⊥
Shares (suc n) (c ∷ cs) [] = ⊥
Shares (suc n) (c ∷ cs) (d ∷ ds) = (c ≡ d) × Shares n cs ds

module _ {D : Type 0} where
  abbrev pub trace : List Choice → List (Event D) → Trace D
  trace cs es = record { choices = cs; events = es }

  abbrev pub trace_of : Log D → Trace D
  trace_of log = trace (chosen log.now.route) log.history

  -- the same operation of the same thread
  abbrev pub IsSame : Event D → Event D → Type 0
  IsSame d e = (e.by ≡ d.by) × (e.op ≡ d.op)

module _ {D : Type 0} (before after : Trace D) where
  -- They are the nth events of the two runs, and the same choices were made before both.
  pub record AreMet (n : ℕ) (d e : Event D) : Type 0 where
    pub old : slice_get before.events n ≡ Some d
    pub new : slice_get after.events n ≡ Some e
    pub passed : e.choices_before ≡ d.choices_before
    pub shared : Shares d.choices_before before.choices after.choices

  -- As long as both runs have made the same choices, the same threads hand over the same operations.
  abbrev pub Agree : Type 0
  Agree = (n : ℕ) (d e : Event D) → AreMet n d e → IsSame d e

  -- The nth events are the first ones of which this isn't so.
  pub record Differ (n : ℕ) : Type 0 where
    pub old : Event D
    pub new : Event D
    pub met : AreMet n old new
    pub differ : IsSame old new → ⊥
    pub first : (k : ℕ) (d e : Event D) → k < n → AreMet k d e → IsSame d e

  -- and these are their thread and their operations, of which data are left out
  pub record Says (change : Changed) : Type 0 where
    pub place : ℕ
    pub differ : Differ place
    pub thread : change.thread ≡ differ.new.by
    pub before_so : change.before ≡ bare_request differ.old.op
    pub now_so : change.now ≡ bare_request differ.new.op

-- ---- a run after another

module _ {D : Type 0} where
  -- The run agrees with the one before, unless it fails as not deterministic. If it ended, it is the one that the next is compared
  -- with.
  abbrev pub Follows : Trace D → Log D → RunEnd → Trace D → Type 0
  Follows last log (Failed failure choices) last' = (failed_by (last_event log.history) ≡ Some failure) × (failure.kind ≢ NotDeterministic → Agree last (trace_of log))
  Follows last log (Ended next) last' = Agree last (trace_of log) × (last' ≡ trace_of log)

  -- what the next run is compared with: the newest of these, if there is one
  abbrev pub last_of : List (Made D) → Trace D
  last_of [] = trace [] []
  last_of (m ∷ ms) = trace_of m.log

-- ---- the runs of a check

module _ {D F V : Type 0} (called : F → Teller D → Result D Stop → F → Teller D → Type 0) (takes : V → List Choice → D → V → Type 0) (limits : Limits) where
  -- Runs that calls of the closure have made, the newest first. Each agrees with the one before it.
  abbrev pub Alike : F → List (Made D) → F → Type 0
  Alike f [] f' = f' ≡ f
  Alike f (m ∷ ms) f' = (g : F) × Alike f ms g × MadeBy called takes limits g m f' × Agree (last_of ms) (trace_of m.log)

  -- so many runs were made
  pub record AreAlike (f : F) (count : ℕ) : Type 0 where
    pub runs : List (Made D)
    pub after : F
    pub alike : Alike f runs after
    pub counted : length runs ≡ count

  -- and then one that failed, which agrees too, unless it failed as not deterministic
  pub record FailsAlike (f : F) (count : ℕ) (failure : Failure) : Type 0 where
    pub before : AreAlike f count
    pub run : Made D
    pub after : F
    pub made : MadeBy called takes limits before.after run after
    pub failed : failed_by (last_event run.log.history) ≡ Some failure
    pub agrees : failure.kind ≢ NotDeterministic → Agree (last_of before.runs) (trace_of run.log)

  -- each run of a check that reports this agrees with the one before it
  abbrev pub ReportsAlike : F → Report → Type 0
  ReportsAlike f (report.Complete count) = AreAlike f count
  ReportsAlike f (report.Stopped count limit checkpoint) = AreAlike f count
  ReportsAlike f (report.Failed count failure choices) = FailsAlike f count failure

  -- The call of the closure has made a run that isn't like this one before it, as the error says.
  pub record Changes (f : F) (last : Trace D) (number : ℕ) (change : Changed) : Type 0 where
    pub run : Made D
    pub after : F
    pub made : MadeBy called takes limits f run after
    pub says : Says last (trace_of run.log) change
    pub number_so : change.run ≡ number

  -- A run more has changed, after runs that were alike.
  pub record HasChanged (f : F) (change : Changed) : Type 0 where
    pub runs : List (Made D)
    pub before : F
    pub alike : Alike f runs before
    pub changes : Changes before (last_of runs) (length runs + 1) change

  -- a check that ends by this error, if the error is `Changed`
  abbrev pub IsChangedSo : F → RunnerError → Type 0
  IsChangedSo f e = (change : Changed) → e ≡ error.Changed change → HasChanged f change
