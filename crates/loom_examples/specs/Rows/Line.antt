-- The line that the program prints of a report, and its exit status; and of a check that remembers states.
use Rattle.std.specs.Prelude.{ℕ, ◌≡◌, List, ◌++◌, Option, codes, decimal}
use Rattle.std.specs.Io.KnownBytes.{Appends}
use Rattle.loom_views.specs.Failures.{number_of}
use Rattle.loom.specs.Model.ChoicesText.{others_text}
use Rattle.loom.specs.declared.model.cover.Covered.{Covered}
use Rattle.loom.specs.declared.model.cover.Covered.TheVariants as covered
use Rattle.loom.specs.declared.model.report.Report.{Report}
use Rattle.loom.specs.declared.model.report.Report.TheVariants.{Complete, Stopped, Failed}

abbrev pub report_text : Report → List ℕ
report_text (Complete runs) = codes "complete " ++ decimal runs
report_text (Stopped runs limit checkpoint) = codes "stopped " ++ decimal runs
report_text (Failed runs failure choices) =
    codes "failed " ++ decimal (number_of failure.kind) ++ codes " " ++ decimal runs ++ others_text choices.items

-- 1 where a run failed
abbrev pub status_of : Report → ℕ
status_of (Complete runs) = 0
status_of (Stopped runs limit checkpoint) = 0
status_of (Failed runs failure choices) = 1

-- a writer that held the old bytes holds the report's line behind them, and the status is the report's
abbrev pub PrintedOf : Report → Option (List ℕ) → Option (List ℕ) → ℕ → Type 0
PrintedOf report old new status = (status ≡ status_of report) × Appends old new (report_text report ++ codes "\n")

-- ---- a check that remembers states

-- how many runs ended, how many were given up where a state was met, and how many states were noted
abbrev pub counts_text : ℕ → ℕ → ℕ → List ℕ
counts_text runs met states = decimal runs ++ codes " met " ++ decimal met ++ codes " states " ++ decimal states

-- of a failure the line is that of a report, and where some runs never end it has the choices that lead there
abbrev pub covered_text : Covered → List ℕ
covered_text (covered.Complete runs met states) = codes "complete " ++ counts_text runs met states
covered_text (covered.Livelock runs met states choices) = codes "livelock" ++ others_text choices.items
covered_text (covered.Stopped runs met states limit) = codes "stopped " ++ counts_text runs met states
covered_text (covered.Failed runs met states failure choices) =
    codes "failed " ++ decimal (number_of failure.kind) ++ codes " " ++ decimal runs ++ others_text choices.items

-- 1 where a run failed, or some never end
abbrev pub covered_status : Covered → ℕ
covered_status (covered.Complete runs met states) = 0
covered_status (covered.Livelock runs met states choices) = 1
covered_status (covered.Stopped runs met states limit) = 0
covered_status (covered.Failed runs met states failure choices) = 1

-- just this line was written, and the status is its own
abbrev pub PrintedCovered : Covered → Option (List ℕ) → Option (List ℕ) → ℕ → Type 0
PrintedCovered found old new status = (status ≡ covered_status found) × Appends old new (covered_text found ++ codes "\n")
