use Rattle.std.proofs.Common.{refl, rules}
use Rattle.loom_views.specs.Views.{points_after_write}
use Rattle.loom_objects.specs.Rules.Cell.{cell_write_end}
use Rattle.loom_objects.proofs.Scene.Showing.{gives_by, leads_by}
use Rattle.loom_objects.proofs.rt.cell.cell_write_end.Goals as goal

pub returns : goal.returns
returns g c =
    gives_by (cell_write_end c.args.number c.args.value) c.args.scene.now _ c.write_cell.new.self.views _ (leads_by (λ p. points_after_write p c.args.scene.now.active c.args.number) _ _ c.in_ok-write_cell.ensures.shown) _ refl (λ p q left e. search rules)
