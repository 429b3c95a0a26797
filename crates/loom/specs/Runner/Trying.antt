-- One run of a search for a shorter failure of a closure: it follows the choices that were given, or its choices are drawn.
use Rattle.std.specs.Prelude.{ℕ, ◌≡◌, ◌⊎◌, Bool, true, false, List, Option, Some, None, Result}
use Rattle.loom_objects.specs.declared.choice.Choice.{Choice}
use Rattle.loom_engine.specs.declared.rt.execution.Limits.{Limits}
use Rattle.loom_engine.specs.Path.Drawn.{led_by}
use Rattle.loom_engine.specs.Path.Route.{Route, chosen}
use Rattle.loom.specs.declared.model.builder.Builder.{Builder}
use Rattle.loom.specs.declared.runner.error.Changed.{Changed}
use Rattle.loom.specs.declared.runner.error.RunnerError.{RunnerError}
use Rattle.loom.specs.declared.runner.error.RunnerError.TheVariants as error
use Rattle.loom.specs.declared.runner.shortening.Failing.{Failing}
use Rattle.loom.specs.declared.runner.stop.Stop.{Stop}
use Rattle.loom.specs.Runner.Alike.{Says, Trace, trace_of}
use Rattle.loom.specs.Runner.Drawn.{SettlesDrawn, led_log}
use Rattle.loom.specs.Runner.Errors.{IsRefusedByHost}
use Rattle.loom.specs.Runner.Handle.{Teller, newcomer}
use Rattle.loom.specs.Runner.Histories.{Log, Settles, Share, ended_by, failed_by, last_event}
use Rattle.loom.specs.Runner.Made.{Made, Settled}
use Rattle.loom.specs.Runner.Refusals.{EndsUnsettled, IsUnsettled}
use Rattle.loom.specs.Runner.Run.{Checked}
use Rattle.loom.specs.Runner.Shortening.{IsLastOf, IsOneOf, Runs}
use Rattle.loom.specs.Runner.Walking.{IsLeftUnsettled, IsUnsettledDrawn}

-- ---- the state at the end of a run

module _ {D : Type 0} where
  -- the path with which it began: where its choices were drawn, the one that follows them
  abbrev pub start_by : Bool → Route → Log D → Route
  start_by false path log = path
  start_by true path log = led_by (chosen log.now.route) path

  -- and the run along that
  abbrev pub log_by : Bool → Log D → Log D
  log_by false log = log
  log_by true log = led_log (chosen log.now.route) log

  abbrev pub SettlesBy : Bool → Log D → Route → Limits → List (Share D) → Type 0
  SettlesBy false log path limits told = Settles log path limits told
  SettlesBy true log path limits told = SettlesDrawn log path limits told

  abbrev pub IsUnsettledBy : Bool → Log D → Route → Limits → List (Share D) → Type 0
  IsUnsettledBy false log path limits told = IsUnsettled log path limits told
  IsUnsettledBy true log path limits told = IsUnsettledDrawn log path limits told

  -- it ended with a result, or failed so
  abbrev pub EndsAs : Log D → Option Failing → Type 0
  EndsAs log None = (value : D) × (ended_by (last_event log.history) ≡ Some value)
  EndsAs log (Some failing) = (failed_by (last_event log.history) ≡ Some failing.failure) × (failing.choices.items ≡ chosen log.now.route)

  module _ (limits : Limits) (drawn : Bool) (path : Route) (log : Log D) (told : List (Share D)) where
    -- the state is settled
    abbrev pub IsChecked : Type 0
    IsChecked = Checked limits (start_by drawn path log) (log_by drawn log) told

    -- and it ends the run so, which is kept for the next one
    abbrev pub IsTried : Option Failing → Trace D → Type 0
    IsTried end last' = IsChecked × EndsAs log end × (last' ≡ trace_of log)

    -- Or not: the host refused memory or a thread, it isn't settled, or it isn't like this run, as the error says.
    abbrev pub IsNotTried : Trace D → ℕ → RunnerError → Type 0
    IsNotTried last number e =
        IsRefusedByHost e ⊎ (((e ≡ error.NotSettled) × IsUnsettledBy drawn log path limits told)
        ⊎ ((change : Changed) × (e ≡ error.Changed change) × IsChecked × Says last (trace_of log) change × (change.run ≡ number)))

-- ---- the run

module _ {D F : Type 0} (called : F → Teller D → Result D Stop → F → Teller D → Type 0) (limits : Limits) (drawn : Bool) (path : Route) (f : F) where
  -- a call of the closure has made this run
  pub record HasMade (m : Made D) (f' : F) : Type 0 where
    pub began : m.began ≡ start_by drawn path m.log
    pub call : called f (newcomer 0) m.answer f' m.handle
    pub settled : Settled limits m

  -- and it ended so, and is kept for the next one
  abbrev pub Tries : Option Failing → F → Trace D → Type 0
  Tries end f' last' = (m : Made D) × HasMade m f' × EndsAs m.log end × (last' ≡ trace_of m.log)

  -- a call has made a run whose end isn't settled
  abbrev pub LeavesUnsettled : Bool → Type 0
  LeavesUnsettled false = EndsUnsettled called limits f path
  LeavesUnsettled true = IsLeftUnsettled called limits f path

  -- or one that isn't like this run
  pub record MakesOther (last : Trace D) (number : ℕ) (change : Changed) : Type 0 where
    pub run : Made D
    pub after : F
    pub made : HasMade run after
    pub says : Says last (trace_of run.log) change
    pub number_so : change.run ≡ number

  -- why the run of this number gave no end
  abbrev pub IsNoTry : Trace D → ℕ → RunnerError → Type 0
  IsNoTry last number e = IsRefusedByHost e ⊎ (((e ≡ error.NotSettled) × LeavesUnsettled drawn) ⊎ ((change : Changed) × (e ≡ error.Changed change) × MakesOther last number change))

-- ---- the search under way

module _ {D F : Type 0} (called : F → Teller D → Result D Stop → F → Teller D → Type 0) (b : Builder) (f0 : F) where
  -- So many runs were made. The shortest failing one is among them, and the last one is kept.
  pub record IsUnderWay (f : F) (count : ℕ) (shortest : Failing) (last : Trace D) : Type 0 where
    pub ran : Runs called b f0 count f
    pub run : Made D
    pub one_of : IsOneOf called b f0 count shortest.choices.items run
    pub failed : failed_by (last_event run.log.history) ≡ Some shortest.failure
    pub newest : Made D
    pub choices : List Choice
    pub is_last : IsLastOf called b f0 count choices newest
    pub kept : last ≡ trace_of newest.log

-- the shortest one stays, or it is the one that was tried, which failed by the same kind
abbrev pub IsBetter : Failing → Option Failing → Failing → Type 0
IsBetter old tried new = (new ≡ old) ⊎ ((tried ≡ Some new) × (new.failure.kind ≡ old.failure.kind))
