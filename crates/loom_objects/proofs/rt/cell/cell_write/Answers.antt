use Rattle.std.proofs.Common.{rules}
use Rattle.loom_objects.proofs.Cells.Opening.{write_opened, write_refused, writes_out}
use Rattle.loom_objects.proofs.rt.cell.cell_write.Goals as goal

pub returns-in_err-open_write : goal.returns-in_err-open_write
returns-in_err-open_write g c = λ p left shown. let e = write_refused c.args.number (writes_out c.args.number c.args.scene.now.active) c.args.scene.now c.open_write.new.scene c.in_err-open_write.field-0.0 c.in_err-open_write.ensures.does p left shown in search rules

pub returns : goal.returns
returns g c = λ p left shown. let o = write_opened c.args.number (writes_out c.args.number c.args.scene.now.active) c.args.scene.now c.open_write.new.scene c.in_ok-open_write.ensures.does c.open_write.ensures.rest p left shown in rw o.1 (search rules)
