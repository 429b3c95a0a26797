use Rattle.std.proofs.Common.{Ok, Err}
use Rattle.loom_engine.proofs.Execution.Beginning.{begin_answered, begin_at_branch, begin_switches}
use Rattle.loom_engine.proofs.rt.execution.enter.Goals as goal

pub returns-in-Ok-Answered-clause-along : goal.returns-in-Ok-Answered-clause-along
returns-in-Ok-Answered-clause-along g c =
    let starts = rw c.in-Ok-Answered.field-0-is at c.in-Ok-Answered.ensures.starts in
    begin_answered c.args.op c.args.run.now c.start.new.run c.args.path.now c.in-Ok-Answered.reply c.active.result c.active.ensures starts

pub returns-in-Ok-AtBranch-clause-along : goal.returns-in-Ok-AtBranch-clause-along
returns-in-Ok-AtBranch-clause-along g c =
    let starts = rw c.in-Ok-AtBranch.field-0-is at c.in-Ok-AtBranch.ensures.starts in
    begin_at_branch c.args.op c.args.run.now c.start.new.run c.args.path.now starts

pub returns-in-Err-switch-clause-along : goal.returns-in-Err-switch-clause-along
returns-in-Err-switch-clause-along g c =
    let starts = rw c.in-Ok-Explores.field-0-is at c.in-Ok-Explores.ensures.starts in
    begin_switches c.args.op c.args.run.now c.start.new.run c.args.path.now c.in-Ok-Explores.op starts (Err c.in-Err-switch.stop) c.switch.new.run c.switch.new.path c.in-Err-switch.ensures.along

pub returns-in-Ok-clause-along : goal.returns-in-Ok-clause-along
returns-in-Ok-clause-along g c =
    let starts = rw c.in-Ok-Explores.field-0-is at c.in-Ok-Explores.ensures.starts in
    begin_switches c.args.op c.args.run.now c.start.new.run c.args.path.now c.in-Ok-Explores.op starts (Ok c.in-Ok.turn) c.switch.new.run c.switch.new.path c.in-Ok.ensures.along
