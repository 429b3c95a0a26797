use Rattle.std.proofs.Common.{refl}
use Rattle.loom_objects.specs.Rules.Notify.{enters_wait}
use Rattle.loom_objects.proofs.Machine.Stepping.{mapped, steps_by, not_memory}
use Rattle.loom_objects.proofs.rt.machine.enter_wait.Goals as goal

pub returns-clause-does : goal.returns-clause-does
returns-clause-does g c =
    rw (mapped c.enter_wait.result c.map_err.result c.map_err.ensures.cases) (steps_by (enters_wait c.args.is_spurious c.args.notifier) c.args.run.now _ c.enter_wait.result refl c.enter_wait.ensures)

pub returns-clause-no_growth : goal.returns-clause-no_growth
returns-clause-no_growth g c = rw (mapped c.enter_wait.result c.map_err.result c.map_err.ensures.cases) (not_memory c.enter_wait.result)
