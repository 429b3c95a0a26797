-- What is printed of a check of the row that words mean.
use Rattle.std.specs.Prelude.{ℕ, ◌≡◌, List, [], ◌∷◌, Option, Some, None, map}
use Rattle.std.specs.List.{find}
use Rattle.std.specs.Str.{bytes_eq}
use Rattle.loom.specs.Model.Check.{ReportsAlone}
use Rattle.loom.specs.Model.Settings.{explores}
use Rattle.loom.specs.declared.model.builder.Builder.{Builder}
use Rattle.loom.specs.declared.model.report.Report.{Report}
use Rattle.loom_engine.specs.Runs.Body.{runs as runs_of}
use Rattle.loom_examples.specs.Scripts.Running.{started}
use Rattle.loom_examples.specs.Scripts.Script as script
use Rattle.loom_examples.specs.Rows.Builder.{IsBuilder}
use Rattle.loom_examples.specs.Rows.Line.{PrintedOf}
use Rattle.loom_examples.specs.Rows.Meanings.{Meant, Steps, Updates, Named}
use Rattle.loom_examples.specs.Rows.Table.{IsTable}
use Rattle.loom_examples.specs.Rows.Words.{file_in, meant_by}
use Rattle.loom_examples.specs.Scripts.Written.{Written, written}
use Rattle.loom_examples.specs.Bodies.Updates as updates
use Rattle.loom_examples.specs.declared.rows.Checked.{Checked}
use Rattle.loom_examples.specs.declared.rows.Checked.TheVariants.{Script, Updater}
use Rattle.loom_examples.specs.declared.rows.Row.{Row}
use Rattle.loom_examples.specs.declared.rows.settings.Settings.{Settings}

-- ---- rows

-- what a report says of the runs of a script that reads so, checked by this builder
abbrev pub ReportsScript : List Written → Builder → Report → Type 0
ReportsScript steps b = ReportsAlone b (runs_of script.next_of (explores b) b.max_threads b.max_steps (started steps))

-- what a report says of the runs of what is checked
abbrev pub ReportsOf : Checked → Builder → Report → Type 0
ReportsOf (Script steps) b = ReportsScript (map written steps.now) b
ReportsOf (Updater one other) b = ReportsAlone b (runs_of updates.next_of (explores b) b.max_threads b.max_steps (updates.begun one other))

-- just the line of a report of which this holds was written, and the status is the report's
abbrev pub PrintedSome : (Report → Type 0) → Option (List ℕ) → Option (List ℕ) → ℕ → Type 0
PrintedSome Reports old new status = (report : Report) × Reports report × PrintedOf report old new status

-- what was written is of a check of this, with these settings and this checkpoint file, if there is one
abbrev pub PrintedChecked : Checked → Settings → Option (List ℕ) → Option (List ℕ) → Option (List ℕ) → ℕ → Type 0
PrintedChecked checked settings file old new status = (b : Builder) × IsBuilder settings file b × PrintedSome (ReportsOf checked b) old new status

-- the words mean a row, and what was written is of a check of this row, with the file that they name
abbrev pub PrintedRow : List Row → List (List ℕ) → Option (List ℕ) → Option (List ℕ) → ℕ → Type 0
PrintedRow rows words old new status = (row : Row) × (meant_by rows words ≡ Some row) × PrintedChecked row.checked row.settings (file_in words) old new status

-- ---- the table

-- what words mean by a table: the first of one or two words is a name, and means the first row that has it
abbrev pub named_by : List Named → List (List ℕ) → Option Named
named_by table (name ∷ []) = find (λ row. bytes_eq row.name name) table
named_by table (name ∷ file ∷ []) = find (λ row. bytes_eq row.name name) table
named_by table words = None

-- what a report says of the runs of what a name means
abbrev pub ReportsMeant : Meant → Builder → Report → Type 0
ReportsMeant (Steps steps) b = ReportsScript steps b
ReportsMeant (Updates one other) b = ReportsAlone b (runs_of updates.next_of (explores b) b.max_threads b.max_steps (updates.begun one other))

-- the words mean a row of this table, and what was written is of a check of what it means, with the file that they name
abbrev pub PrintedBy : List Named → List (List ℕ) → Option (List ℕ) → Option (List ℕ) → ℕ → Type 0
PrintedBy table words old new status =
    (row : Named) × (named_by table words ≡ Some row)
    × (b : Builder) × IsBuilder row.settings (file_in words) b × PrintedSome (ReportsMeant row.means b) old new status

-- the words mean a row of the program's table, and what was written is of a check of what it means
abbrev pub PrintedNamed : List (List ℕ) → Option (List ℕ) → Option (List ℕ) → ℕ → Type 0
PrintedNamed words old new status = (table : List Named) × IsTable table × PrintedBy table words old new status
