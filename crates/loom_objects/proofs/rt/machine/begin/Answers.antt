use Rattle.std.proofs.Common.{refl, rules}
use Rattle.loom_objects.proofs.Machine.Stepping.{mapped, begins_by}
use Rattle.loom_objects.proofs.rt.machine.begin.Goals as goal

pub returns-in-Ok-clause-does : goal.returns-in-Ok-clause-does
returns-in-Ok-clause-does g c =
    rw (mapped c.in-Ok.answer c.map_err.result c.map_err.ensures.cases) (begins_by c.args.op c.args.run.now _ c.in-Ok.answer (search rules) refl c.in-Ok.ensures.does)
