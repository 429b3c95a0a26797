use Rattle.std.proofs.Common.{refl}
use Rattle.std.specs.Prelude.{Ok, Err}
use Rattle.loom_engine.proofs.Execution.Executing.{load_stops, slot_read, takes_at_once}
use Rattle.loom_engine.proofs.Execution.Growing.{as_refused, copy_refused, load_refused}
use Rattle.loom_engine.proofs.rt.execution.take_turn.Goals as goal

pub returns-in-Err-clause-along : goal.returns-in-Err-clause-along
returns-in-Err-clause-along g c =
    takes_at_once c.args.thread c.args.run.now (record { state = c.resume.new.run; dependence = c.args.run.now.dependence }) c.args.path.now (Err c.in-Err.stop) c.in-Err.ensures.does refl

pub returns-in-Err-clause-growth : goal.returns-in-Err-clause-growth
returns-in-Err-clause-growth g c = λ e. copy_refused c.args.thread c.args.run.now c.args.path.now (c.in-Err.ensures.growth (as_refused c.in-Err.stop e))

pub returns-in-Ok-Passed-clause-along : goal.returns-in-Ok-Passed-clause-along
returns-in-Ok-Passed-clause-along g c =
    let does = rw c.in-Ok-Passed.field-0-is at c.in-Ok-Passed.ensures.does in
    takes_at_once c.args.thread c.args.run.now (record { state = c.resume.new.run; dependence = c.args.run.now.dependence }) c.args.path.now (Ok c.in-Ok-Passed.passed) does refl

pub returns-in-Err-choose_slot-clause-along : goal.returns-in-Err-choose_slot-clause-along
returns-in-Err-choose_slot-clause-along g c =
    let does = rw c.in-Ok-Load.field-0-is at c.in-Ok-Load.ensures.does in
    load_stops c.args.thread c.in-Ok-Load.load c.args.run.now (record { state = c.resume.new.run; dependence = c.args.run.now.dependence }) c.args.path.now c.choose_slot.new.path does refl
    c.in-Err-choose_slot.stop c.in-Err-choose_slot.ensures.says

pub returns-in-Err-choose_slot-clause-growth : goal.returns-in-Err-choose_slot-clause-growth
returns-in-Err-choose_slot-clause-growth g c = λ e.
    let does = rw c.in-Ok-Load.field-0-is at c.in-Ok-Load.ensures.does in
    load_refused c.args.thread c.in-Ok-Load.load c.args.run.now (record { state = c.resume.new.run; dependence = c.args.run.now.dependence }) c.args.path.now c.choose_slot.new.path
    c.in-Err-choose_slot.stop does refl c.in-Err-choose_slot.ensures.says e

pub returns-in-Err-read-clause-along : goal.returns-in-Err-read-clause-along
returns-in-Err-read-clause-along g c =
    let does = rw c.in-Ok-Load.field-0-is at c.in-Ok-Load.ensures.does in
    slot_read c.args.thread c.in-Ok-Load.load c.args.run.now (record { state = c.resume.new.run; dependence = c.args.run.now.dependence }) c.args.path.now c.choose_slot.new.path does refl
    c.in-Ok.slot c.in-Ok.ensures.says c.choose_slot.ensures.same c.in-Ok.ensures.readable (Err c.in-Err-read.stop)
    (record { state = c.read.new.run; dependence = c.args.run.now.dependence }) refl c.in-Err-read.ensures.does

pub returns-in-Ok-read-clause-along : goal.returns-in-Ok-read-clause-along
returns-in-Ok-read-clause-along g c =
    let does = rw c.in-Ok-Load.field-0-is at c.in-Ok-Load.ensures.does in
    slot_read c.args.thread c.in-Ok-Load.load c.args.run.now (record { state = c.resume.new.run; dependence = c.args.run.now.dependence }) c.args.path.now c.choose_slot.new.path does refl
    c.in-Ok.slot c.in-Ok.ensures.says c.choose_slot.ensures.same c.in-Ok.ensures.readable (Ok c.in-Ok-read.turn)
    (record { state = c.read.new.run; dependence = c.args.run.now.dependence }) refl c.in-Ok-read.ensures.does
