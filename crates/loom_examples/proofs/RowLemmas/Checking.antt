-- What is printed where a row is checked and nothing is explained.
use Rattle.std.proofs.Common.{ℕ, ◌≡◌, List, false, refl, sym, subst, ◌⊎◌, ⊎_elim, inl, inr}
use Rattle.std.specs.Prelude.{IfOk, Option, Result, Ok, Err}
use Rattle.loom.specs.Model.Check.{ReportsAlone}
use Rattle.loom.specs.declared.model.builder.Builder.{Builder}
use Rattle.loom.specs.declared.model.report.Report.{Report}
use Rattle.loom_examples.specs.declared.rows.Checked.{Checked}
use Rattle.loom_examples.specs.declared.rows.Checked.TheVariants.{Script, Updater}
use Rattle.loom_examples.specs.declared.rows.settings.Settings.{Settings}
use Rattle.loom_examples.specs.Rows.Line.{PrintedOf}
use Rattle.loom_examples.specs.Rows.Printed.{PrintedChecked, ReportsOf}
use Rattle.loom_examples.specs.Rows.Tasks.{PrintedTask, tree_of}
use Rattle.loom_examples.specs.declared.rows.tasks.Task.TheVariants.{Check}

-- what a report says of the runs of what is checked
reports_of : (checked : Checked) (b : Builder) (report : Report) → ReportsAlone b (tree_of checked b) report → ReportsOf checked b report
reports_of (Script steps) b report r = r
reports_of (Updater one other) b report r = r

-- nothing is behind the line
printed_alone : (checked : Checked) (settings : Settings) (file old new : Option (List ℕ)) (status : ℕ)
    → PrintedTask Check false checked settings file old new status → PrintedChecked checked settings file old new status
printed_alone checked settings file old new status (b, i, (report, r, (mid, p, behind))) =
    (b, i, (report, reports_of checked b report r, subst (λ bytes. PrintedOf report old bytes status) (sym (behind refl)) p))

-- nothing is behind the line, where the status may be 2, of a result
pub checked_alone : {E : Type 0} (checked : Checked) (settings : Settings) (file old new : Option (List ℕ)) (answer : Result ℕ E)
    → IfOk answer (λ status. (status ≡ 2) ⊎ PrintedTask Check false checked settings file old new status)
    → IfOk answer (λ status. (status ≡ 2) ⊎ PrintedChecked checked settings file old new status)
checked_alone checked settings file old new (Ok status) p = ⊎_elim inl (λ q. inr (printed_alone checked settings file old new status q)) p
checked_alone checked settings file old new (Err e) p = p
