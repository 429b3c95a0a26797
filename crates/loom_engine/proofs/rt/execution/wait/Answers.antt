use Rattle.std.proofs.Common.{refl}
use Rattle.loom_engine.proofs.Execution.Executing.{wait_goes, wait_stops, wake_stops}
use Rattle.loom_engine.proofs.Execution.Growing.{wait_needs, wake_refused}
use Rattle.loom_engine.proofs.rt.execution.wait.Goals as goal

pub returns-in-Err-clause-along : goal.returns-in-Err-clause-along
returns-in-Err-clause-along g c = wake_stops c.args.notifier c.args.run.now c.args.path.now c.in-Err.stop c.branch_spurious.new.self c.in-Err.ensures.says

pub returns-in-Err-clause-growth : goal.returns-in-Err-clause-growth
returns-in-Err-clause-growth g c = λ e. wake_refused c.args.notifier c.args.run.now c.args.path.now c.branch_spurious.new.self c.in-Err.stop c.in-Err.ensures.says e

pub returns-in-Err-enter_wait-clause-along : goal.returns-in-Err-enter_wait-clause-along
returns-in-Err-enter_wait-clause-along g c =
    wait_stops c.args.notifier c.args.run.now c.args.path.now c.in-Ok.is_spurious c.branch_spurious.new.self c.in-Ok.ensures.says c.branch_spurious.ensures.same
    c.in-Err-enter_wait.stop (record { state = c.enter_wait.new.run; dependence = c.args.run.now.dependence }) c.in-Err-enter_wait.ensures.does

pub returns-in-Ok-enter_wait-clause-along : goal.returns-in-Ok-enter_wait-clause-along
returns-in-Ok-enter_wait-clause-along g c =
    wait_goes c.args.notifier c.args.run.now c.args.path.now c.in-Ok.is_spurious c.branch_spurious.new.self c.in-Ok.ensures.says c.branch_spurious.ensures.same
    (record { state = c.enter_wait.new.run; dependence = c.args.run.now.dependence }) c.in-Ok-enter_wait.ensures.does refl
    c.schedule.result c.schedule.new.run c.schedule.new.path c.schedule.ensures.along

pub returns-in-Ok-enter_wait-clause-growth : goal.returns-in-Ok-enter_wait-clause-growth
returns-in-Ok-enter_wait-clause-growth g c = λ e.
    wait_needs c.args.notifier c.in-Ok.is_spurious c.args.run.now (record { state = c.enter_wait.new.run; dependence = c.args.run.now.dependence }) c.args.path.now c.branch_spurious.new.self
    c.in-Ok.ensures.says c.branch_spurious.ensures.same c.in-Ok-enter_wait.ensures.does refl (c.schedule.ensures.growth e)
