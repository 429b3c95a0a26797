-- What a check of closures promises as its builder asks: that each run is a call of the closure (`loom/specs/Runner/Check.antt`), or where
-- the builder says `recorded` that its runs are those of what was recorded (`loom/specs/Runner/Recorded.antt`).
use Rattle.std.specs.Prelude.{ℕ, ◌≡◌, true, false, List, Option, None, Result}
use Rattle.std.specs.declared.time.Duration.{Duration}
use Rattle.loom_objects.specs.declared.choice.Choice.{Choice}
use Rattle.loom.specs.declared.model.builder.Builder.{Builder}
use Rattle.loom.specs.declared.model.report.Report.{Report}
use Rattle.loom.specs.Model.Check.{gives_file}
use Rattle.loom.specs.declared.runner.stop.Stop.{Stop}
use Rattle.loom.specs.Runner.Check.{Reports}
use Rattle.loom.specs.Runner.Handle.{Teller}
use Rattle.loom.specs.Runner.Recorded.{ReportsRecorded}

module _ {D F V : Type 0} (called : F → Teller D → Result D Stop → F → Teller D → Type 0) (takes : V → List Choice → D → V → Type 0) (b : Builder) where
  -- What a report says of a check of this closure, and of what the visitor was given: where the store gave what it may give, and holds
  -- what it may hold, and where the clock has answered so.
  pub record ReportsAsAsked (f : F) (v v' : V) (gives holds : Option (List ℕ) → Type 0) (answered : Duration → Type 0) (report : Report) : Type 0 where
    pub by_calls : b.recorded ≡ false → Reports called takes b f v v' gives holds answered report
    pub by_recording : b.recorded ≡ true → ReportsRecorded called takes b f v v' gives holds answered report

  -- what a report says where no store is, and no time passes
  abbrev pub ReportsAsAskedUnsaved : F → V → V → Report → Type 0
  ReportsAsAskedUnsaved f v v' report = ReportsAsAsked f v v' (λ text. text ≡ None) (λ text. Unit {0}) (λ time. time ≡ record { secs = 0; nanos = 0 }) report

  -- and where the checkpoint file is the store, if one is named, of which nothing is known
  abbrev pub ReportsAsAskedAlone : F → V → V → Report → Type 0
  ReportsAsAskedAlone f v v' report = ReportsAsAsked f v v' (gives_file b.checkpoint_file) (λ text. Unit {0}) (λ time. time ≡ record { secs = 0; nanos = 0 }) report
