-- Why a check of closures, and a replay, gives no report. A setting out of range, or a text that is no path of the check, is refused
-- before any run. Besides, the host has refused memory or a thread, the store met a fault, or a run's end isn't settled: then the
-- visitor was given just the runs that had ended before it (`BreaksOff`).
use Rattle.std.specs.Prelude.{ℕ, ◌≡◌, ◌≢◌, ◌<◌, ◌⊎◌, List, Option, Some, None, Result, Ok, Err, length}
use Rattle.loom_objects.specs.declared.choice.Choice.{Choice}
use Rattle.loom_objects.specs.declared.failure.Failure.{Failure}
use Rattle.loom_engine.specs.declared.rt.execution.Limits.{Limits}
use Rattle.loom_engine.specs.declared.rt.path.node.Node.{Node}
use Rattle.loom_engine.specs.Path.Route.{Route}
use Rattle.loom.specs.declared.model.builder.Builder.{Builder}
use Rattle.loom.specs.declared.model.error.CheckError.{CheckError}
use Rattle.loom.specs.declared.model.error.CheckError.TheVariants.{Store}
use Rattle.loom.specs.Model.Check.{gives_file}
use Rattle.loom.specs.Model.Refusals.{IsRefusedBy}
use Rattle.loom.specs.Model.Settings.{explores, most_runs, search_of, tested}
use Rattle.loom.specs.Model.StoredText.{ReadsAs}
use Rattle.loom.specs.Model.Stores.{HasRisen, Keeps}
use Rattle.loom.specs.declared.runner.error.Changed.{Changed}
use Rattle.loom.specs.declared.runner.error.RunnerError.{RunnerError}
use Rattle.loom.specs.declared.runner.error.RunnerError.TheVariants as error
use Rattle.loom.specs.declared.runner.stop.Stop.{Stop}
use Rattle.loom.specs.declared.runner.stop.Stop.TheVariants as stop
use Rattle.loom.specs.Runner.Histories.{Log, Share, Settles, end_in, ended_by, last_event}
use Rattle.loom.specs.Runner.Handle.{Teller}
use Rattle.loom.specs.Runner.Errors.{IsRefusedByHost}
use Rattle.loom.specs.Runner.Made.{Made, MadeBy}
use Rattle.loom.specs.Runner.Run.{Checked, WasCalled}
use Rattle.loom.specs.Runner.Check.{IsHeld, Makes, limits_of}
use Rattle.loom.specs.Runner.Replay.{following}

-- ---- one run

module _ {D : Type 0} where
  -- its history ends it with this result
  abbrev pub ComesToValue : Log D → Type 0
  ComesToValue log = (value : D) × (ended_by (last_event log.history) ≡ Some value)

  -- The state at its end isn't settled: it was spoiled by a failure that is no event; or it began otherwise, or some thread's operations
  -- and replies aren't its part of the history; or the history has no end.
  abbrev pub IsUnsettled : Log D → Route → Limits → List (Share D) → Type 0
  IsUnsettled log began limits told = ((failure : Failure) × (log.spoiled ≡ Some (stop.Failure failure))) ⊎ ((Settles log began limits told → ⊥) ⊎ (end_in log.history ≡ None))

module _ {D : Type 0} where
  -- the history has no end, or memory was refused
  abbrev pub IsOpenOrRefused : Log D → RunnerError → Type 0
  IsOpenOrRefused log e = IsRefusedByHost e ⊎ ((e ≡ error.NotSettled) × (end_in log.history ≡ None))

  -- why the state at the end of a run isn't explained: the host has refused memory or a thread, or it isn't settled
  abbrev pub IsNotTold : Limits → Route → Log D → List (Share D) → RunnerError → Type 0
  IsNotTold limits began log told e = IsRefusedByHost e ⊎ ((e ≡ error.NotSettled) × IsUnsettled log began limits told)

-- why the state at the end of a run makes no end of it, and that the visitor wasn't given it, unless that was where memory was refused
module _ {D V : Type 0} (limits : Limits) where
  abbrev pub IsNotJudged : V → Route → Log D → List (Share D) → RunnerError → V → Type 0
  IsNotJudged v began log told (error.Settings why) v' = ⊥
  IsNotJudged v began log told (error.Changed change) v' = ⊥
  IsNotJudged v began log told error.Refused v' = v' ≡ v
  IsNotJudged v began log told error.NotSettled v' = IsUnsettled log began limits told × (v' ≡ v)
  IsNotJudged v began log told error.Memory v' = (v' ≡ v) ⊎ (Checked limits began log told × ComesToValue log)

module _ {D F : Type 0} (called : F → Teller D → Result D Stop → F → Teller D → Type 0) (limits : Limits) where
  -- a call of the closure has made a run from this path whose end isn't settled
  pub record EndsUnsettled (f : F) (began : Route) : Type 0 where
    pub after : F
    pub log : Log D
    pub told : List (Share D)
    pub call : WasCalled called f after told
    pub unsettled : IsUnsettled log began limits told

module _ {D F V : Type 0} (called : F → Teller D → Result D Stop → F → Teller D → Type 0) (takes : V → List Choice → D → V → Type 0) (limits : Limits) where
  -- a call of the closure has made a run from this path that ended with a result
  pub record HasEnded (f : F) (began : Route) : Type 0 where
    pub run : Made D
    pub after : F
    pub began_so : run.began ≡ began
    pub made : MadeBy called takes limits f run after
    pub value : ComesToValue run.log

  -- Why a run from this path gave no end. The visitor wasn't given it, unless memory was refused where it was.
  abbrev pub IsNoRun : F → V → Route → RunnerError → V → Type 0
  IsNoRun f v began (error.Settings why) v' = ⊥
  IsNoRun f v began (error.Changed change) v' = ⊥
  IsNoRun f v began error.Refused v' = v' ≡ v
  IsNoRun f v began error.NotSettled v' = EndsUnsettled called limits f began × (v' ≡ v)
  IsNoRun f v began error.Memory v' = (v' ≡ v) ⊎ HasEnded f began

  -- Or the run has changed, of which `HasChanged` says how, and the visitor wasn't given it.
  abbrev pub IsNoEnd : F → V → Route → RunnerError → V → Type 0
  IsNoEnd f v began e v' = ((change : Changed) × (e ≡ error.Changed change) × (v' ≡ v)) ⊎ IsNoRun f v began e v'

-- ---- checks

-- memory was refused; or the store met a fault, where this says that it did
abbrev pub IsNoSave : Type 0 → RunnerError → Type 0
IsNoSave faulted e = (e ≡ error.Memory) ⊎ ((e ≡ error.Settings Store) × faulted)

-- an error of the store comes exactly where its count of faults has risen in this check
abbrev pub CountsFaults : {A : Type 0} → Result A RunnerError → ℕ → ℕ → Type 0
CountsFaults result old new = (result ≡ Err (error.Settings Store) → HasRisen old new) × (result ≢ Err (error.Settings Store) → new ≡ old)

module _ {D F V : Type 0} (called : F → Teller D → Result D Stop → F → Teller D → Type 0) (takes : V → List Choice → D → V → Type 0) (b : Builder) (gives : Option (List ℕ) → Type 0) where
  -- The visitor was given these runs. Then the next one, one of as many as a check may make, gave no end, or its path wasn't saved.
  pub record BreaksOff (faulted : Type 0) (f : F) (v v' : V) (e : RunnerError) : Type 0 where
    pub text : Option (List ℕ)
    pub gave : gives text
    pub path : List Node
    pub reads : ReadsAs (search_of b) (explores b) text path
    pub runs : List (Made D)
    pub before : F
    pub visitor : V
    pub next : Route
    pub given : Makes called takes b path f v runs before visitor (Some next)
    pub why : ((length runs < most_runs b) × IsNoEnd called takes (limits_of b) before visitor next e v') ⊎ (IsNoSave faulted e × (v' ≡ visitor))

  -- no run was made: the store gave no answer, or a text that is refused as the error says
  abbrev pub IsNotBegun : Type 0 → V → V → RunnerError → Type 0
  IsNotBegun faulted v v' e = (v' ≡ v) × (IsNoSave faulted e ⊎ ((why : CheckError) × (e ≡ error.Settings why) × IsRefusedBy b gives why))

  -- the check didn't begin, or its runs broke off
  abbrev pub GivesUp : Type 0 → F → V → V → RunnerError → Type 0
  GivesUp faulted f v v' e = IsNotBegun faulted v v' e ⊎ BreaksOff faulted f v v' e

  -- a setting is out of range, and no run was made; or the settings are in range, and the check gave up
  abbrev pub IsNoReport : Type 0 → F → V → V → RunnerError → Type 0
  IsNoReport faulted f v v' e = ((why : CheckError) × (e ≡ error.Settings why) × (tested b ≡ Err why) × (v' ≡ v)) ⊎ ((tested b ≡ Ok tt) × GivesUp faulted f v v' e)

  -- where a check ends by an error after it began with a path, what a store may hold is what `IsHeld` says, after some runs
  pub record HeldBack (holds : Option (List ℕ) → Type 0) (f : F) (v : V) : Type 0 where
    pub text : Option (List ℕ)
    pub gave : gives text
    pub path : List Node
    pub reads : ReadsAs (search_of b) (explores b) text path
    pub runs : List (Made D)
    pub held : IsHeld called takes b path holds f v runs b.checkpoint_interval

  -- After an error a store may hold what it held before the check, or a text of a path that the check has reached.
  abbrev pub StillHolds : (Option (List ℕ) → Type 0) → (Option (List ℕ) → Type 0) → F → V → Type 0
  StillHolds old new f v = Keeps old new ⊎ HeldBack new f v

module _ {D F V : Type 0} (called : F → Teller D → Result D Stop → F → Teller D → Type 0) (takes : V → List Choice → D → V → Type 0) (b : Builder) where
  -- why there is no report where no store is
  abbrev pub IsNoReportUnsaved : F → V → V → RunnerError → Type 0
  IsNoReportUnsaved f v v' e = IsNoReport called takes b (λ text. text ≡ None) ⊥ f v v' e

  -- and where the checkpoint file is the store, if one is named
  abbrev pub IsNoReportAlone : F → V → V → RunnerError → Type 0
  IsNoReportAlone f v v' e = IsNoReport called takes b (gives_file b.checkpoint_file) (b.checkpoint_file ≢ None) f v v' e

-- ---- replays

module _ {D F : Type 0} (called : F → Teller D → Result D Stop → F → Teller D → Type 0) where
  -- the host has refused memory or a thread, or the run along this path isn't settled
  abbrev pub IsNoReplayAlong : Limits → Route → F → RunnerError → Type 0
  IsNoReplayAlong limits start f e = IsRefusedByHost e ⊎ ((e ≡ error.NotSettled) × EndsUnsettled called limits f start)

  -- a setting is out of range; or the settings are in range, and the run that follows these choices gave no end
  abbrev pub IsNoReplay : Builder → List Choice → F → RunnerError → Type 0
  IsNoReplay b given f e = ((why : CheckError) × (e ≡ error.Settings why) × (tested b ≡ Err why)) ⊎ ((tested b ≡ Ok tt) × IsNoReplayAlong (limits_of b) (following b given) f e)
