use Rattle.std.proofs.Common.{rules, ◌∙◌}
use Rattle.loom_views.specs.Views.{points_after_write}
use Rattle.loom_objects.proofs.Scene.Showing.{leads_by, stops}
use Rattle.loom_objects.proofs.Cells.Opening.{goes_on, replaces_by, write_opened, write_refused}
use Rattle.loom_objects.proofs.rt.cell.cell_replace.Goals as goal

pub returns-in_err-open_write : goal.returns-in_err-open_write
returns-in_err-open_write g c = λ p left shown. let e = write_refused c.args.number (replaces_by c.args.new c.args.number) c.args.scene.now c.open_write.new.scene c.in_err-open_write.field-0.0 c.in_err-open_write.ensures.does p left shown in search rules

pub returns-in_err-write_cell : goal.returns-in_err-write_cell
returns-in_err-write_cell g c = λ p left shown.
    let o = write_opened c.args.number (replaces_by c.args.new c.args.number) c.args.scene.now c.open_write.new.scene c.in_ok-open_write.ensures.does c.open_write.ensures.rest p left shown in
    let e = o.1 ∙ stops (goes_on c.args.number (replaces_by c.args.new c.args.number)) c.open_write.new.scene c.open_write.new.scene (λ q. points_after_write q c.open_write.new.scene.active c.args.number) c.write_cell.new.self.views
    c.in_err-write_cell.field-0.0 c.in_err-write_cell.ensures.shown (λ q left e. search rules) o.0 left o.2 in
    search rules

pub returns : goal.returns
returns g c = λ p left shown.
    let o = write_opened c.args.number (replaces_by c.args.new c.args.number) c.args.scene.now c.open_write.new.scene c.in_ok-open_write.ensures.does c.open_write.ensures.rest p left shown in
    let m = leads_by (λ q. points_after_write q c.open_write.new.scene.active c.args.number) c.open_write.new.scene.views c.write_cell.new.self.views c.in_ok-write_cell.ensures.shown o.0 o.2 in
    rw o.1 (search rules)
