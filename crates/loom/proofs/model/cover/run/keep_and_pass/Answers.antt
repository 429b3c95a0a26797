use Rattle.std.proofs.Common.{refl}
use Rattle.std.specs.Prelude.{Ok}
use Rattle.loom_engine.specs.Covering.Kept.{beside}
use Rattle.loom.proofs.ModelLemmas.Covering.{over_scheduled, schedule_stops, stays_so}
use Rattle.loom.proofs.ModelLemmas.CoverSnapshots.{kept_more, scheduled_keeps}
use Rattle.loom.proofs.model.cover.run.keep_and_pass.Goals as goal

pub returns-in-Ok-Known-clause-event : goal.returns-in-Ok-Known-clause-event
returns-in-Ok-Known-clause-event g c = (rw c.in-Ok-Known.field-0-is at c.in-Ok-Known.ensures, refl)

pub returns-in-Ok-Known-clause-kept : goal.returns-in-Ok-Known-clause-kept
returns-in-Ok-Known-clause-kept g c = λ run h kept. kept

pub returns-in-Err-schedule-clause-event : goal.returns-in-Err-schedule-clause-event
returns-in-Err-schedule-clause-event g c =
    schedule_stops c.args.bodies.now c.args.execution.now c.schedule.new.self c.args.path.now c.schedule.new.path (beside c.args.known.now c.args.states.now) (beside c.args.known.now c.look_up.new.states) c.in-Err-schedule.stop c.in-Err-schedule.ensures.event

pub returns-in-Ok-schedule-clause-event : goal.returns-in-Ok-schedule-clause-event
returns-in-Ok-schedule-clause-event g c = (rw c.in-Ok-New.field-0-is at c.in-Ok-New.ensures, c.in-Ok-schedule.ensures.event)

pub returns-in-Ok-schedule-clause-kept : goal.returns-in-Ok-schedule-clause-kept
returns-in-Ok-schedule-clause-kept g c = λ run h kept.
    scheduled_keeps g.B.Body.next run c.args.bodies.now c.args.execution.now c.schedule.new.self c.args.path.now c.schedule.new.path (beside c.args.known.now c.args.states.now) (beside c.args.known.now c.look_up.new.states) c.requires c.schedule.ensures.same.0.0 h c.in-Ok-schedule.turn
    c.in-Ok-schedule.ensures.event c.keep.new.snapshots
    (kept_more g.B.Body.next run c.args.bodies.now c.args.execution.now c.args.path.now (beside c.args.known.now c.args.states.now) c.args.snapshots.now c.keep.new.snapshots c.requires h c.in-Ok.ensures kept)

pub returns-in-Ok-schedule-clause-open : goal.returns-in-Ok-schedule-clause-open
returns-in-Ok-schedule-clause-open g c =
    stays_so c.in-Ok-schedule.turn c.schedule.new.self.over (over_scheduled c.args.execution.now c.schedule.new.self c.args.path.now c.schedule.new.path (Ok c.in-Ok-schedule.turn) c.requires c.in-Ok-schedule.ensures.event)

pub returns-in-Ok-schedule-clause-same : goal.returns-in-Ok-schedule-clause-same
returns-in-Ok-schedule-clause-same g c = c.schedule.ensures.same.0
