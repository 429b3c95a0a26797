use Rattle.std.proofs.Common.{refl}
use Rattle.std.specs.Prelude.{Ok, Err}
use Rattle.loom_engine.proofs.Execution.Drawing.{at_once_drawn, no_load_drawn, slot_drawn}
use Rattle.loom_engine.proofs.rt.execution.drawing.take_turn.Goals as goal

pub returns-in-Err-clause-along : goal.returns-in-Err-clause-along
returns-in-Err-clause-along g c =
    at_once_drawn c.args.thread c.args.run.now (record { state = c.resume.new.run; dependence = c.args.run.now.dependence }) c.args.path.now (Err c.in-Err.stop) c.in-Err.ensures.does refl

pub returns-in-Ok-Passed-clause-along : goal.returns-in-Ok-Passed-clause-along
returns-in-Ok-Passed-clause-along g c =
    let does = rw c.in-Ok-Passed.field-0-is at c.in-Ok-Passed.ensures.does in
    at_once_drawn c.args.thread c.args.run.now (record { state = c.resume.new.run; dependence = c.args.run.now.dependence }) c.args.path.now (Ok c.in-Ok-Passed.passed) does refl

pub returns-in-Err-draw_load-clause-along : goal.returns-in-Err-draw_load-clause-along
returns-in-Err-draw_load-clause-along g c =
    let does = rw c.in-Ok-Load.field-0-is at c.in-Ok-Load.ensures.does in
    no_load_drawn c.args.thread c.in-Ok-Load.load c.args.run.now (record { state = c.resume.new.run; dependence = c.args.run.now.dependence }) c.args.path.now c.draw_load.new.self does refl
    c.in-Err-draw_load.stop c.in-Err-draw_load.ensures.says

pub returns-in-Err-read-clause-along : goal.returns-in-Err-read-clause-along
returns-in-Err-read-clause-along g c =
    let does = rw c.in-Ok-Load.field-0-is at c.in-Ok-Load.ensures.does in
    slot_drawn c.args.thread c.in-Ok-Load.load c.args.run.now (record { state = c.resume.new.run; dependence = c.args.run.now.dependence }) c.args.path.now c.draw_load.new.self does refl
    c.in-Ok.slot c.in-Ok.ensures.says c.draw_load.ensures.same c.in-Ok.ensures.readable (Err c.in-Err-read.stop)
    (record { state = c.read.new.run; dependence = c.args.run.now.dependence }) refl c.in-Err-read.ensures.does

pub returns-in-Ok-read-clause-along : goal.returns-in-Ok-read-clause-along
returns-in-Ok-read-clause-along g c =
    let does = rw c.in-Ok-Load.field-0-is at c.in-Ok-Load.ensures.does in
    slot_drawn c.args.thread c.in-Ok-Load.load c.args.run.now (record { state = c.resume.new.run; dependence = c.args.run.now.dependence }) c.args.path.now c.draw_load.new.self does refl
    c.in-Ok.slot c.in-Ok.ensures.says c.draw_load.ensures.same c.in-Ok.ensures.readable (Ok c.in-Ok-read.turn)
    (record { state = c.read.new.run; dependence = c.args.run.now.dependence }) refl c.in-Ok-read.ensures.does
