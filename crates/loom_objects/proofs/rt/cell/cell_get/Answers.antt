use Rattle.std.proofs.Common.{rules, ◌∙◌}
use Rattle.loom_views.specs.Views.{points_after_read}
use Rattle.loom_views.specs.declared.rt.failure.FailureKind.TheVariants.{Misuse}
use Rattle.loom_objects.specs.Rules.Cell.{cell_get}
use Rattle.loom_objects.proofs.Scene.Showing.{leads_by, stops}
use Rattle.loom_objects.proofs.Cells.Going.{copies, fails_outside}
use Rattle.loom_objects.proofs.Cells.Opening.{gets_out, goes_on, read_opened, read_refused}
use Rattle.loom_objects.proofs.rt.cell.cell_get.Goals as goal

pub returns-in_err-open_read : goal.returns-in_err-open_read
returns-in_err-open_read g c =
    fails_outside (cell_get c.args.number) _ _ c.in_err-open_read.field-0.0 _ (search rules)
    (read_refused c.args.number (gets_out c.args.number) c.args.scene.now c.open_read.new.scene c.in_err-open_read.field-0.0 c.in_err-open_read.ensures.does)

pub returns-in_err-value : goal.returns-in_err-value
returns-in_err-value g c =
    fails_outside (cell_get c.args.number) _ _ Misuse _ (search rules)
    (λ p left shown. let o = read_opened c.args.number (gets_out c.args.number) c.args.scene.now c.open_read.new.scene c.in_ok-open_read.ensures.does c.open_read.ensures.rest p left shown in rw o.1 (search rules))

pub returns-in-Err : goal.returns-in-Err
returns-in-Err g c = λ p left shown.
    let o = read_opened c.args.number (gets_out c.args.number) c.args.scene.now c.open_read.new.scene c.in_ok-open_read.ensures.does c.open_read.ensures.rest p left shown in
    o.1 ∙ stops (goes_on c.args.number (gets_out c.args.number)) c.open_read.new.scene c.open_read.new.scene (λ q. points_after_read q c.open_read.new.scene.active c.args.number) c.read_cell.new.self.views
    c.in-Err.kind c.in-Err.ensures.shown (λ q left e. search rules) o.0 left o.2

pub returns-in-Ok : goal.returns-in-Ok
returns-in-Ok g c =
    copies (cell_get c.args.number) _ _ c.copied-entry.result _ c.copied-entry.ensures
    (λ p left shown.
    let o = read_opened c.args.number (gets_out c.args.number) c.args.scene.now c.open_read.new.scene c.in_ok-open_read.ensures.does c.open_read.ensures.rest p left shown in
    let m = leads_by (λ q. points_after_read q c.open_read.new.scene.active c.args.number) c.open_read.new.scene.views c.read_cell.new.self.views c.in-Ok.ensures.shown o.0 o.2 in
    rw o.1 (search rules))
