use Rattle.std.proofs.Common.{◌≡◌, ◌∙◌, ap, refl, rules, sym}
use Rattle.loom_views.specs.Views.{points_after_write}
use Rattle.loom_objects.specs.Scene.Stage.{Stage}
use Rattle.loom_objects.proofs.Scene.Showing.{gives_by, leads_by, leads_on, stops_by}
use Rattle.loom_objects.specs.Stages.CellSwap.{writes_both}
use Rattle.loom_objects.proofs.rt.cell.write_both.Goals as goal

pub returns-in_err-write_cell-2 : goal.returns-in_err-write_cell-2
returns-in_err-write_cell-2 g c = λ p left shown.
    let old = c.args.scene.now in
    let mid = c.write_cell.new.self in
    let first = leads_by (λ q. points_after_write q old.active c.args.other) old.views mid.views c.in_ok-write_cell.ensures.shown in
    let same : mid.active ≡ old.active = ap (λ (s : Stage g.row.D.Denot). s.active) c.in_ok-write_cell.ensures.rest in
    let e = stops_by (writes_both c.args.number c.args.other) old c.write_cell-2.new.self mid.views _ first (λ q. points_after_write q mid.active c.args.number) c.write_cell-2.new.self.views c.in_err-write_cell-2.field-0.0 c.in_err-write_cell-2.ensures.shown
    (λ p q left way stop. rw (way, ap (λ a. points_after_write q a c.args.number) (sym same) ∙ stop) refl) p left shown in
    search rules

pub returns : goal.returns
returns g c =
    let old = c.args.scene.now in
    let mid = c.write_cell.new.self in
    let first = leads_by (λ p. points_after_write p old.active c.args.other) old.views mid.views c.in_ok-write_cell.ensures.shown in
    let both = leads_on (λ p. points_after_write p mid.active c.args.number) old.views mid.views c.write_cell-2.new.self.views first c.in_ok-write_cell-2.ensures.shown in
    let same : mid.active ≡ old.active = ap (λ (s : Stage g.row.D.Denot). s.active) c.in_ok-write_cell.ensures.rest in
    gives_by (writes_both c.args.number c.args.other) old c.write_cell-2.new.self c.write_cell-2.new.self.views _ both tt refl
    (λ p r left way. rw (way.1, ap (λ a. points_after_write way.0 a c.args.number) (sym same) ∙ way.2, c.in_ok-write_cell-2.ensures.rest, c.in_ok-write_cell.ensures.rest) refl)
