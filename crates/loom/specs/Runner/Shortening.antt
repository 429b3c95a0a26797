-- What is promised of a shorter failure of a closure: it fails by the same kind as the run by the choices that were given, and replays.
use Rattle.std.specs.Prelude.{ℕ, suc, ◌≡◌, ◌<◌, ◌≤◌, ◌+◌, ◌⊎◌, List, [], Option, Some, None, Result, Ok, Err}
use Rattle.loom_views.specs.declared.rt.failure.FailureKind.{FailureKind}
use Rattle.loom_objects.specs.declared.choice.Choice.{Choice}
use Rattle.loom_objects.specs.declared.failure.Failure.{Failure}
use Rattle.loom.specs.declared.model.builder.Builder.{Builder}
use Rattle.loom.specs.declared.model.error.CheckError.{CheckError}
use Rattle.loom.specs.declared.model.shorten.Shortened.{Shortened}
use Rattle.loom.specs.Model.Settings.{tested}
use Rattle.loom.specs.declared.runner.error.Changed.{Changed}
use Rattle.loom.specs.declared.runner.error.RunnerError.{RunnerError}
use Rattle.loom.specs.declared.runner.error.RunnerError.TheVariants as error
use Rattle.loom.specs.declared.runner.stop.Stop.{Stop}
use Rattle.loom.specs.Runner.Alike.{Says, trace_of}
use Rattle.loom.specs.Runner.Check.{limits_of}
use Rattle.loom.specs.Runner.Errors.{IsRefusedByHost}
use Rattle.loom.specs.Runner.Handle.{Teller}
use Rattle.loom.specs.Runner.Histories.{ended_by, failed_by, last_event}
use Rattle.loom.specs.Runner.Made.{Made}
use Rattle.loom.specs.Runner.Refusals.{IsNoReplayAlong}
use Rattle.loom.specs.Runner.Replay.{IsMadeAlong, following}
use Rattle.loom.specs.Runner.Walking.{IsLeftUnsettled}

module _ {D F : Type 0} (called : F → Teller D → Result D Stop → F → Teller D → Type 0) (b : Builder) where
  -- a call of the closure has made this run, which follows these choices
  abbrev pub Follows : F → List Choice → Made D → Type 0
  Follows f choices m = IsMadeAlong called (limits_of b) (following b choices) f m

  -- so many runs, one after another
  pub data Runs (f : F) : ℕ → F → Type 0 where
    none : Runs f 0 f
    more : (count : ℕ) (g : F) (choices : List Choice) (m : Made D) → Runs f count g → (made : Follows g choices m) → Runs f (suc count) made.after

  -- one of so many runs: it came behind fewer, and follows these choices
  pub record IsOneOf (f : F) (count : ℕ) (choices : List Choice) (m : Made D) : Type 0 where
    pub number : ℕ
    pub few : number < count
    pub before : F
    pub ran : Runs f number before
    pub made : Follows before choices m

  -- the last one of them
  pub record IsLastOf (f : F) (count : ℕ) (choices : List Choice) (m : Made D) : Type 0 where
    pub one_of : IsOneOf f count choices m
    pub last : one_of.number + 1 ≡ count

  -- ---- what is found

  -- a run that follows these choices fails by this kind
  pub record FailsBy (f : F) (choices : List Choice) (kind : FailureKind) : Type 0 where
    pub run : Made D
    pub made : Follows f choices run
    pub failure : Failure
    pub failed : failed_by (last_event run.log.history) ≡ Some failure
    pub kind_so : failure.kind ≡ kind

  -- What is found is of one of the runs, which failed so. With the first one there were at most so many.
  pub record IsFound (f : F) (most : ℕ) (found : Shortened) : Type 0 where
    pub run : Made D
    pub one_of : IsOneOf f found.runs found.choices.items run
    pub failed : failed_by (last_event run.log.history) ≡ Some found.failure
    pub after : F
    pub counted : Runs f found.runs after
    pub within : (found.runs ≡ 1) ⊎ (found.runs ≤ most)

  -- The run by the given choices fails by the same kind. Nothing is found only where it ends with a result.
  abbrev pub Shortens : F → List Choice → ℕ → Option Shortened → Type 0
  Shortens f given most None = (run : Made D) × Follows f given run × (value : D) × (ended_by (last_event run.log.history) ≡ Some value)
  Shortens f given most (Some found) = FailsBy f given found.failure.kind × IsFound f most found

  -- ---- where nothing is answered

  -- A run more isn't like the one before it, as the error says.
  pub record HasChanged (f : F) (count : ℕ) (before : F) (change : Changed) : Type 0 where
    pub earlier : Made D
    pub by : List Choice
    pub is_last : IsLastOf f count by earlier
    pub run : Made D
    pub choices : List Choice
    pub made : Follows before choices run
    pub says : Says (trace_of earlier.log) (trace_of run.log) change
    pub number : change.run ≡ count + 1

  -- Behind so many runs one more gave no end: the host has refused memory or a thread, its end isn't settled, or it has changed.
  pub record BreaksOff (f : F) (e : RunnerError) : Type 0 where
    pub count : ℕ
    pub before : F
    pub ran : Runs f count before
    pub why : IsRefusedByHost e ⊎ (((e ≡ error.NotSettled) × IsLeftUnsettled called (limits_of b) before (following b [])) ⊎ ((change : Changed) × (e ≡ error.Changed change) × HasChanged f count before change))

  -- the run that follows the given choices gave no end, or one behind it
  abbrev pub IsNotShortenedBy : List Choice → F → RunnerError → Type 0
  IsNotShortenedBy given f e = IsNoReplayAlong called (limits_of b) (following b given) f e ⊎ BreaksOff f e

  -- a setting is out of range, and no run was made; or the settings are in range
  abbrev pub IsNotShortened : List Choice → F → RunnerError → Type 0
  IsNotShortened given f e = ((why : CheckError) × (e ≡ error.Settings why) × (tested b ≡ Err why)) ⊎ ((tested b ≡ Ok tt) × IsNotShortenedBy given f e)
