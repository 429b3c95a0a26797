use Rattle.std.proofs.Common.{refl}
use Rattle.std.specs.Prelude.{Ok}
use Rattle.loom_engine.specs.Covering.Kept.{beside}
use Rattle.loom.proofs.ModelLemmas.Covering.{over_scheduled, schedule_stops, stays_so}
use Rattle.loom.proofs.model.cover.run.pass.Goals as goal

pub returns-in-Ok-Known-clause-event : goal.returns-in-Ok-Known-clause-event
returns-in-Ok-Known-clause-event g c = (rw c.in-Ok-Known.field-0-is at c.in-Ok-Known.ensures, refl)

pub returns-in-Err-schedule-clause-event : goal.returns-in-Err-schedule-clause-event
returns-in-Err-schedule-clause-event g c =
    schedule_stops c.args.bodies.now c.args.execution.now c.schedule.new.self c.args.path.now c.schedule.new.path (beside c.args.known.now c.args.states.now) (beside c.args.known.now c.look_up.new.states)
    c.in-Err-schedule.stop c.in-Err-schedule.ensures.event

pub returns-in-Ok-clause-event : goal.returns-in-Ok-clause-event
returns-in-Ok-clause-event g c = (rw c.in-Ok-New.field-0-is at c.in-Ok-New.ensures, c.in-Ok.ensures.event)

pub returns-in-Ok-clause-open : goal.returns-in-Ok-clause-open
returns-in-Ok-clause-open g c =
    stays_so c.in-Ok.turn c.schedule.new.self.over (over_scheduled c.args.execution.now c.schedule.new.self c.args.path.now c.schedule.new.path (Ok c.in-Ok.turn) c.requires c.in-Ok.ensures.event)

pub returns-in-Ok-clause-same : goal.returns-in-Ok-clause-same
returns-in-Ok-clause-same g c = c.schedule.ensures.same.0
