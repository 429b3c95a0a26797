-- What is found in the rows is found in the table that they are.
use Rattle.std.proofs.Common.{ℕ, ◌≡◌, List, [], ◌∷◌, Bool, true, false, map, refl, ap, sym, subst, ◌∙◌, ◌⊎◌, ⊎_elim, inl, inr, cond}
use Rattle.std.specs.Option.{option_map}
use Rattle.std.specs.Prelude.{IfOk, Option, Some, Result, Ok, Err}
use Rattle.std.specs.List.{find}
use Rattle.std.specs.Str.{bytes_eq}
use Rattle.loom.specs.declared.model.builder.Builder.{Builder}
use Rattle.loom.specs.declared.model.report.Report.{Report}
use Rattle.loom_examples.specs.declared.rows.Checked.{Checked}
use Rattle.loom_examples.specs.declared.rows.Checked.TheVariants.{Script, Updater}
use Rattle.loom_examples.specs.declared.rows.Row.{Row}
use Rattle.loom_examples.specs.Rows.Meanings.{Named, meant, named}
use Rattle.loom_examples.specs.Rows.Words.{file_in, row_of, meant_by}
use Rattle.loom_examples.specs.Rows.Printed.{named_by, ReportsOf, ReportsMeant, PrintedChecked, PrintedRow, PrintedNamed}
use Rattle.loom_examples.specs.Rows.Table.{IsTable}

-- what is chosen of two
chosen : (b : Bool) (first : Row) (other : Option Named) (later : Option Row) → other ≡ option_map named later
    → cond {A = Option Named} b (Some (named first)) other ≡ option_map named (cond {A = Option Row} b (Some first) later)
chosen true first other later e = refl
chosen false first other later e = e

-- the first row that has a name
found : (rows : List Row) (name : List ℕ) → find (λ row. bytes_eq row.name name) (map named rows) ≡ option_map named (row_of rows name)
found [] name = refl
found (first ∷ rows) name = chosen (bytes_eq first.name.now name) first (find (λ row. bytes_eq row.name name) (map named rows)) (row_of rows name) (found rows name)

-- what words mean
meant_found : (rows : List Row) (words : List (List ℕ)) → named_by (map named rows) words ≡ option_map named (meant_by rows words)
meant_found rows [] = refl
meant_found rows (name ∷ []) = found rows name
meant_found rows (name ∷ file ∷ []) = found rows name
meant_found rows (name ∷ file ∷ other ∷ words) = refl

-- what a report says
pub reports_meant : (checked : Checked) (b : Builder) (report : Report) → ReportsOf checked b report → ReportsMeant (meant checked) b report
reports_meant (Script steps) b report r = r
reports_meant (Updater one other) b report r = r

-- what was printed of a row was printed by the table
pub printed_by : (rows : List Row) (words : List (List ℕ)) (old new : Option (List ℕ)) (status : ℕ)
    → IsTable (map named rows) → PrintedRow rows words old new status → PrintedNamed words old new status
printed_by rows words old new status t (row, m, (b, i, (report, r, p))) =
    (map named rows, t, (named row, meant_found rows words ∙ ap (option_map named) m, b, i, (report, reports_meant row.checked b report r, p)))

-- what was printed of a row was printed by the table, where the status may be 2
pub printed_or_not : (rows items : List Row) (words : List (List ℕ)) (old new : Option (List ℕ)) (status : ℕ) → rows ≡ items
    → IsTable (map named items) → (status ≡ 2) ⊎ PrintedRow rows words old new status → (status ≡ 2) ⊎ PrintedNamed words old new status
printed_or_not rows items words old new status e t p =
    ⊎_elim inl (λ q. inr (printed_by rows words old new status (subst (λ r. IsTable (map named r)) (sym e) t) q)) p

-- what was printed of a row with a file, where words mean these
pub printed_meant : {E : Type 0} (rows : List Row) (words : List (List ℕ)) (row : Row) (file : Option (List ℕ)) (old new : Option (List ℕ)) (answer : Result ℕ E)
    → Some row ≡ meant_by rows words → file ≡ file_in words
    → IfOk answer (λ status. (status ≡ 2) ⊎ PrintedChecked row.checked row.settings file old new status)
    → IfOk answer (λ status. (status ≡ 2) ⊎ PrintedRow rows words old new status)
printed_meant rows words row file old new (Ok status) m f p =
    ⊎_elim inl (λ q. inr (row, sym m, subst (λ named. PrintedChecked row.checked row.settings named old new status) f q)) p
printed_meant rows words row file old new (Err e) m f p = p
