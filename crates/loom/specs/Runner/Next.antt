-- What one run of a closure is that comes after another, and why it gives no end.
use Rattle.std.specs.Prelude.{ℕ, ◌≡◌, ◌⊎◌, List, Result}
use Rattle.loom_objects.specs.declared.choice.Choice.{Choice}
use Rattle.loom_engine.specs.declared.rt.execution.Limits.{Limits}
use Rattle.loom_engine.specs.Path.Route.{Route}
use Rattle.loom.specs.declared.runner.error.Changed.{Changed}
use Rattle.loom.specs.declared.runner.error.RunnerError.{RunnerError}
use Rattle.loom.specs.declared.runner.error.RunnerError.TheVariants as error
use Rattle.loom.specs.declared.runner.run_end.RunEnd.{RunEnd}
use Rattle.loom.specs.declared.runner.stop.Stop.{Stop}
use Rattle.loom.specs.Runner.Alike.{Changes, Follows, Says, Trace, trace_of}
use Rattle.loom.specs.Runner.Handle.{Teller}
use Rattle.loom.specs.Runner.Histories.{Log, Share}
use Rattle.loom.specs.Runner.Made.{Made, MadeBy}
use Rattle.loom.specs.Runner.Refusals.{IsNoRun, IsNotJudged}
use Rattle.loom.specs.Runner.Run.{Checked}

module _ {D V : Type 0} (limits : Limits) where
  -- the state at its end makes no end of it: it is settled, and has changed as the error says; or there is another reason
  abbrev pub IsNotJudgedNext : V → Route → Trace D → ℕ → Log D → List (Share D) → RunnerError → V → Type 0
  IsNotJudgedNext v began last number log told e v' =
      ((change : Changed) × (e ≡ error.Changed change) × Checked limits began log told × Says last (trace_of log) change × (change.run ≡ number) × (v' ≡ v))
      ⊎ IsNotJudged limits v began log told e v'

module _ {D F V : Type 0} (called : F → Teller D → Result D Stop → F → Teller D → Type 0) (takes : V → List Choice → D → V → Type 0) (limits : Limits) where
  -- a call of the closure has made a run that follows this one
  abbrev pub MakesNext : F → Trace D → RunEnd → F → Trace D → Type 0
  MakesNext f last end f' last' = (m : Made D) × MadeBy called takes limits f m f' × Follows last m.log end last'

  -- why the run of this number gave no end: it has changed, and the visitor wasn't given it; or there is another reason
  abbrev pub IsNoNextRun : F → V → Route → Trace D → ℕ → RunnerError → V → Type 0
  IsNoNextRun f v began last number e v' = ((change : Changed) × (e ≡ error.Changed change) × Changes called takes limits f last number change × (v' ≡ v)) ⊎ IsNoRun called takes limits f v began e v'
