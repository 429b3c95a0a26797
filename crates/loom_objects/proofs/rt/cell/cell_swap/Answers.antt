use Rattle.std.proofs.Common.{rules}
use Rattle.loom_objects.specs.Rules.Cell.{cell_swap, exchanges_cells, opens_write}
use Rattle.loom_objects.specs.Rules.Rule.{◌>>=◌}
use Rattle.loom_objects.proofs.Scene.Showing.{does_as, follows}
use Rattle.loom_objects.proofs.Cells.Going.{comes_so}
use Rattle.loom_objects.proofs.rt.cell.cell_swap.Goals as goal

pub returns-in_err-open_write : goal.returns-in_err-open_write
returns-in_err-open_write g c = λ p left shown. let e = c.in_err-open_write.ensures.does p left shown in search rules

pub returns-in_err-open_write-2 : goal.returns-in_err-open_write-2
returns-in_err-open_write-2 g c = λ p left shown.
    let o = comes_so (opens_write c.args.number) c.args.scene.now c.open_write.new.scene tt c.in_ok-open_write.ensures.does p left shown in
    let e = c.in_err-open_write-2.ensures.does o.0 left o.2 in
    search rules

pub returns : goal.returns
returns g c =
    does_as (cell_swap c.args.number c.args.other) (λ w. opens_write c.args.number w >>= λ opened. opens_write c.args.other opened.1 >>= λ both. exchanges_cells c.args.number c.args.other both.1) _ _ _ (λ p left. search rules)
    (follows (opens_write c.args.number) (λ opened. opens_write c.args.other opened.1 >>= λ both. exchanges_cells c.args.number c.args.other both.1) _ c.open_write.new.scene _ tt _ c.in_ok-open_write.ensures.does
    (follows (opens_write c.args.other) (λ both. exchanges_cells c.args.number c.args.other both.1) _ c.open_write-2.new.scene _ tt _ c.in_ok-open_write-2.ensures.does c.exchange_cells.ensures))
