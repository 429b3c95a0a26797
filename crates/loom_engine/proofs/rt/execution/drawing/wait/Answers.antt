use Rattle.std.proofs.Common.{refl}
use Rattle.loom_engine.proofs.Execution.Drawing.{more_by, no_wait_drawn, no_wake_drawn, stays_drawn, wait_drawn}
use Rattle.loom_engine.proofs.rt.execution.drawing.wait.Goals as goal

pub schedule-requires : goal.schedule-requires
schedule-requires g c = stays_drawn c.args.path.now c.draw_spurious.new.self c.requires c.draw_spurious.ensures.past c.draw_spurious.ensures.same

pub returns-in-Err-clause-along : goal.returns-in-Err-clause-along
returns-in-Err-clause-along g c = no_wake_drawn c.args.notifier c.args.run.now c.args.path.now c.draw_spurious.new.self c.in-Err.stop c.in-Err.ensures.says

pub returns-in-Err-enter_wait-clause-along : goal.returns-in-Err-enter_wait-clause-along
returns-in-Err-enter_wait-clause-along g c =
    no_wait_drawn c.args.notifier c.args.run.now c.args.path.now c.draw_spurious.new.self c.in-Ok.is_spurious c.in-Ok.ensures.says c.draw_spurious.ensures.same
    (record { state = c.enter_wait.new.run; dependence = c.args.run.now.dependence }) c.in-Err-enter_wait.stop c.in-Err-enter_wait.ensures.does

pub returns-in-Ok-enter_wait-clause-along : goal.returns-in-Ok-enter_wait-clause-along
returns-in-Ok-enter_wait-clause-along g c =
    wait_drawn c.args.notifier c.args.run.now c.args.path.now c.draw_spurious.new.self c.in-Ok.is_spurious c.in-Ok.ensures.says c.draw_spurious.ensures.same
    (record { state = c.enter_wait.new.run; dependence = c.args.run.now.dependence }) c.in-Ok-enter_wait.ensures.does refl
    c.schedule.result c.schedule.new.run c.schedule.new.path c.schedule.ensures.more c.schedule.ensures.along

pub returns-in-Ok-enter_wait-clause-more : goal.returns-in-Ok-enter_wait-clause-more
returns-in-Ok-enter_wait-clause-more g c = more_by c.args.path.now c.draw_spurious.new.self c.schedule.new.path c.draw_spurious.ensures.more c.schedule.ensures.more
