use Rattle.std.proofs.Common.{◌≡◌, ◌∙◌, ap, refl, sym}
use Rattle.loom_views.specs.Views.{points_after_raise, points_after_write}
use Rattle.loom_objects.specs.Rules.Cell.{opens_write}
use Rattle.loom_objects.specs.Scene.Stage.{Stage}
use Rattle.loom_objects.proofs.Scene.Showing.{gives_by, leads_by, leads_on}
use Rattle.loom_objects.proofs.rt.cell.open_write.Goals as goal

pub returns : goal.returns
returns g c =
    let old = c.args.scene.now in
    let mid = c.raise.new.self in
    let raised = leads_by (λ p. points_after_raise p old.active) old.views mid.views c.in_ok-raise.ensures.shown in
    let moved = leads_on (λ p. points_after_write p mid.active c.args.number) old.views mid.views c.write_cell.new.self.views raised c.in_ok-write_cell.ensures.shown in
    let same : mid.active ≡ old.active = ap (λ (s : Stage g.row.D.Denot). s.active) c.in_ok-raise.ensures.rest in
    record {
      does = gives_by (opens_write c.args.number) old c.write_cell.new.self c.write_cell.new.self.views _ moved tt refl
          (λ p r left way. rw (sym c.in_ok-cell.ensures, way.1, sym c.if-not-is_free.ensures, ap (λ a. points_after_write way.0 a c.args.number) (sym same) ∙ way.2, c.in_ok-write_cell.ensures.rest, c.in_ok-raise.ensures.rest) refl);
      rest = c.in_ok-write_cell.ensures.rest ∙ ap (λ (s : Stage g.row.D.Denot). record s { views = c.write_cell.new.self.views }) c.in_ok-raise.ensures.rest;
    }
