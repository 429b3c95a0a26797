-- What a check that is to be complete answers.
use Rattle.std.specs.Prelude.{ℕ, ◌≡◌, ◌≢◌, false, List, Result, Ok, Err}
use Rattle.loom_objects.specs.declared.choice.Choice.{Choice}
use Rattle.loom.specs.declared.model.builder.Builder.{Builder}
use Rattle.loom.specs.declared.model.report.Report.TheVariants.{Complete}
use Rattle.loom.specs.declared.runner.defaults.NoVisitor.{NoVisitor}
use Rattle.loom.specs.declared.runner.expecting.Incomplete.{Incomplete}
use Rattle.loom.specs.declared.runner.expecting.Incomplete.TheVariants.{NoReport, Found}
use Rattle.loom.specs.declared.runner.stop.Stop.{Stop}
use Rattle.loom.specs.Runner.AsAsked.{ReportsAsAskedAlone}
use Rattle.loom.specs.Runner.Handle.{Teller}
use Rattle.loom.specs.Runner.Refusals.{IsNoReportAlone}

-- nobody is given the runs
abbrev pub ignores : {D : Type 0} → NoVisitor → List Choice → D → NoVisitor → Type 0
ignores old choices value new = Unit {0}

-- the number of runs, where the check of the closure is complete; else why there is no report, of which more is said where nothing is
-- recorded; or another report
abbrev pub IsAnswered : {D F : Type 0} → (F → Teller D → Result D Stop → F → Teller D → Type 0) → Builder → F → Result ℕ Incomplete → Type 0
IsAnswered called b f (Ok runs) = (v v' : NoVisitor) × ReportsAsAskedAlone called ignores b f v v' (Complete runs)
IsAnswered called b f (Err (NoReport e)) = (v v' : NoVisitor) × (b.recorded ≡ false → IsNoReportAlone called ignores b f v v' e)
IsAnswered called b f (Err (Found report)) = (v v' : NoVisitor) × ReportsAsAskedAlone called ignores b f v v' report × ((runs : ℕ) → report ≢ Complete runs)
