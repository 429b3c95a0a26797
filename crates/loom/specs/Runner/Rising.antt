-- What a check of closures with rising bounds on preemptions promises.
use Rattle.std.specs.Prelude.{ℕ, ◌≡◌, ◌<◌, ◌≤◌, true, Result}
use Rattle.loom.specs.declared.model.builder.Builder.{Builder}
use Rattle.loom.specs.declared.model.report.Report.{Report}
use Rattle.loom.specs.declared.model.report.Report.TheVariants.{Complete}
use Rattle.loom.specs.declared.model.rising.Risen.{Risen}
use Rattle.loom.specs.Model.Rising.{bounded, is_complete}
use Rattle.loom.specs.declared.runner.defaults.NoVisitor.{NoVisitor}
use Rattle.loom.specs.declared.runner.stop.Stop.{Stop}
use Rattle.loom.specs.Runner.AsAsked.{ReportsAsAskedUnsaved}
use Rattle.loom.specs.Runner.Expected.{ignores}
use Rattle.loom.specs.Runner.Handle.{Teller}

module _ {D F : Type 0} (called : F → Teller D → Result D Stop → F → Teller D → Type 0) (b : Builder) where
  -- a check of the closure as it was then, with this bound and without a file, reports this
  abbrev pub ReportsAt : ℕ → Report → Type 0
  ReportsAt bound report = (f : F) × (v : NoVisitor) × (v' : NoVisitor) × ReportsAsAskedUnsaved called ignores (bounded b bound) f v v' report

  -- it is complete
  abbrev pub CompletesAt : ℕ → Type 0
  CompletesAt bound = (count : ℕ) × ReportsAt bound (Complete count)

  -- what is known of checks with the bounds 0, 1, 2 .. up to the one that is reported
  pub record RisesTo (up_to : ℕ) (risen : Risen) : Type 0 where
    pub within : risen.bound ≤ up_to
    pub lower : (bound : ℕ) → bound < risen.bound → CompletesAt bound
    pub last : ReportsAt risen.bound risen.report
    -- where the last is complete too there is no bound left
    pub ends : is_complete risen.report ≡ true → risen.bound ≡ up_to
