use Rattle.std.proofs.Common.{refl}
use Rattle.loom_engine.proofs.Execution.Beginning.{wake_fails, wake_refused, wakes}
use Rattle.loom_engine.proofs.rt.execution.wake.Goals as goal

pub returns-in-Err-clause-along : goal.returns-in-Err-clause-along
returns-in-Err-clause-along g c = wake_refused c.args.notifier c.args.run.now c.args.path.now c.in-Err.stop c.branch_spurious.new.self c.in-Err.ensures.says

pub returns-in-Err-enter_wait-clause-along : goal.returns-in-Err-enter_wait-clause-along
returns-in-Err-enter_wait-clause-along g c =
    wake_fails c.args.notifier c.args.run.now c.args.path.now c.in-Ok.is_spurious c.branch_spurious.new.self c.in-Ok.ensures.says c.branch_spurious.ensures.same
    c.in-Err-enter_wait.stop (record { state = c.enter_wait.new.run; dependence = c.args.run.now.dependence }) c.in-Err-enter_wait.ensures.does

pub returns-in-Ok-enter_wait-clause-along : goal.returns-in-Ok-enter_wait-clause-along
returns-in-Ok-enter_wait-clause-along g c =
    wakes c.args.notifier c.args.run.now c.args.path.now c.in-Ok.is_spurious c.branch_spurious.new.self c.in-Ok.ensures.says c.branch_spurious.ensures.same
    (record { state = c.enter_wait.new.run; dependence = c.args.run.now.dependence }) c.in-Ok-enter_wait.ensures.does refl
