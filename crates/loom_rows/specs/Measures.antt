-- What is printed of checks of the body that a name means.
use Rattle.std.specs.Prelude.{ℕ, ◌≡◌, List, ◌++◌, Option, Some, Bool, true, false, codes, map}
use Rattle.std.specs.Io.KnownBytes.{Appends}
use Rattle.std.specs.List.{find}
use Rattle.std.specs.Str.{bytes_eq}
use Rattle.loom.specs.Model.Covered.{CoveringAlone}
use Rattle.loom.specs.declared.model.cover.Covered.{Covered}
use Rattle.loom.specs.declared.model.report.Report.{Report}
use Rattle.loom_examples.specs.Rows.Builder.{builder_of}
use Rattle.loom_examples.specs.Rows.Line.{covered_status, covered_text, report_text, status_of}
use Rattle.loom_examples.specs.Rows.Printed.{ReportsScript}
use Rattle.loom_examples.specs.Scripts.Running.{started}
use Rattle.loom_examples.specs.Scripts.Script.{next_of}
use Rattle.loom_examples.specs.Scripts.Written.{written}
use Rattle.loom_examples.specs.Measured.Body.{Named}
use Rattle.loom_examples.specs.Measured.Table.{all, body_of}
use Rattle.loom_examples.specs.declared.measured.Measured.{Measured}

-- the line that is printed: the name, and the text of a report
abbrev pub line_of : List ℕ → Report → List ℕ
line_of name report = name ++ codes " " ++ report_text report ++ codes "\n"

-- just this line was written, and the status is the report's
abbrev pub PrintedLine : List ℕ → Report → Option (List ℕ) → Option (List ℕ) → ℕ → Type 0
PrintedLine name report old new status = (status ≡ status_of report) × Appends old new (line_of name report)

-- the name means a body, and what was written is of a check of this body, with its settings
abbrev pub PrintedBody : List Measured → List ℕ → Option (List ℕ) → Option (List ℕ) → ℕ → Type 0
PrintedBody bodies name old new status =
    (body : Measured) × (report : Report)
    × (body_of bodies name ≡ Some body)
    × ReportsScript (map written body.steps.now) (builder_of body.settings) report
    × PrintedLine name report old new status

-- what a name means by a table: the first of it that has the name
abbrev pub named_by : List Named → List ℕ → Option Named
named_by bodies name = find (λ body. bytes_eq body.name name) bodies

-- the name means a body of the program's table, and what was written is of a check of this body, with its settings
abbrev pub PrintedNamed : List ℕ → Option (List ℕ) → Option (List ℕ) → ℕ → Type 0
PrintedNamed name old new status =
    (body : Named) × (report : Report)
    × (named_by all name ≡ Some body)
    × ReportsScript body.steps (builder_of body.settings) report
    × PrintedLine name report old new status

-- the words behind the name of a body that is covered, with snapshots or without
abbrev pub cover_words : Bool → List ℕ
cover_words true = codes " cover snapshots"
cover_words false = codes " cover"

-- The name means a body, and what was written is of a check of it that remembers states, with its settings, which makes snapshots or none.
abbrev pub PrintedCover : List Measured → List ℕ → Bool → Option (List ℕ) → Option (List ℕ) → ℕ → Type 0
PrintedCover bodies name snapshots old new status =
    (body : Measured) × (covered : Covered)
    × (body_of bodies name ≡ Some body)
    × CoveringAlone (record (builder_of body.settings) { snapshots = snapshots }) next_of (started (map written body.steps.now)) covered
    × (status ≡ covered_status covered)
    × Appends old new (name ++ cover_words snapshots ++ codes " " ++ covered_text covered ++ codes "\n")
