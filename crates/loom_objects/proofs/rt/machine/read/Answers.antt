use Rattle.std.proofs.Common.{refl}
use Rattle.loom_objects.proofs.Machine.Stepping.{reads_by, reads_fail}
use Rattle.loom_objects.proofs.rt.machine.read.Goals as goal

pub returns-in-Ok-clause-does : goal.returns-in-Ok-clause-does
returns-in-Ok-clause-does g c = rw c.active.ensures (reads_by c.args.load.now c.args.slot c.args.run.now _ c.in-Ok.reply refl c.in-Ok.ensures)

pub returns-in-Err-clause-does : goal.returns-in-Err-clause-does
returns-in-Err-clause-does g c = rw c.failed.ensures (reads_fail c.args.load.now c.args.slot c.args.run.now (record c.args.run.now { scene = c.read.new.scene }) c.in-Err.kind c.in-Err.ensures)
