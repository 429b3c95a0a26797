use Rattle.std.proofs.Common.{refl}
use Rattle.loom_objects.specs.Rules.Ending.{end_of}
use Rattle.loom_objects.proofs.Machine.Stepping.{mapped, steps_by, not_memory}
use Rattle.loom_objects.proofs.rt.machine.end_run.Goals as goal

pub returns-clause-does : goal.returns-clause-does
returns-clause-does g c =
    rw (mapped c.end.result c.map_err.result c.map_err.ensures.cases) (steps_by end_of c.args.run.now _ c.end.result refl c.end.ensures)

pub returns-clause-no_growth : goal.returns-clause-no_growth
returns-clause-no_growth g c = rw (mapped c.end.result c.map_err.result c.map_err.ensures.cases) (not_memory c.end.result)
