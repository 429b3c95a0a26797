use Rattle.loom_engine.proofs.Execution.Executing.{switch_fails, switches_so}
use Rattle.loom_engine.proofs.rt.execution.switch.Goals as goal

pub returns-in-Ok-clause-along : goal.returns-in-Ok-clause-along
returns-in-Ok-clause-along g c =
    switches_so c.args.op c.args.run.now c.args.path.now c.switch_path.new.path c.active.result c.active.ensures c.in-Ok.ensures.switches

pub returns-in-Err-clause-along : goal.returns-in-Err-clause-along
returns-in-Err-clause-along g c =
    rw c.failed.ensures (switch_fails c.args.op c.args.run.now c.args.path.now c.switch_path.new.path c.in-Err.kind c.in-Err.ensures.switches)
