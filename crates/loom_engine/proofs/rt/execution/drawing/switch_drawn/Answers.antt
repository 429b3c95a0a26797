use Rattle.loom_engine.proofs.Execution.Drawing.{no_switch_drawn, switch_keeps, switches_drawn}
use Rattle.loom_engine.proofs.rt.execution.drawing.switch_drawn.Goals as goal

pub returns-in-Ok-clause-along : goal.returns-in-Ok-clause-along
returns-in-Ok-clause-along g c =
    switches_drawn c.args.op c.args.run.now c.args.path.now c.switch_path.new.path c.active.result c.active.ensures c.in-Ok.ensures.switches

pub returns-in-Err-clause-along : goal.returns-in-Err-clause-along
returns-in-Err-clause-along g c =
    rw c.failed.ensures (no_switch_drawn c.args.op c.args.run.now c.args.path.now c.switch_path.new.path c.in-Err.kind c.in-Err.ensures.switches)

pub returns-in-Ok-clause-more : goal.returns-in-Ok-clause-more
returns-in-Ok-clause-more g c = (switch_keeps c.args.path.now c.switch_path.new.path c.args.op c.switch_path.result c.requires c.switch_path.ensures.switches).0

pub returns-in-Ok-clause-drawn : goal.returns-in-Ok-clause-drawn
returns-in-Ok-clause-drawn g c = (switch_keeps c.args.path.now c.switch_path.new.path c.args.op c.switch_path.result c.requires c.switch_path.ensures.switches).1

pub returns-in-Err-clause-more : goal.returns-in-Err-clause-more
returns-in-Err-clause-more g c = (switch_keeps c.args.path.now c.switch_path.new.path c.args.op c.switch_path.result c.requires c.switch_path.ensures.switches).0

pub returns-in-Err-clause-drawn : goal.returns-in-Err-clause-drawn
returns-in-Err-clause-drawn g c = (switch_keeps c.args.path.now c.switch_path.new.path c.args.op c.switch_path.result c.requires c.switch_path.ensures.switches).1
