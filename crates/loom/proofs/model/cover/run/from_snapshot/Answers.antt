use Rattle.std.proofs.Common.{refl}
use Rattle.std.specs.Prelude.{Ok}
use Rattle.loom_objects.specs.declared.operation.Turn.TheVariants as turn
use Rattle.loom_engine.specs.Covering.Kept.{beside}
use Rattle.loom.proofs.ModelLemmas.Covering.{end_of, not_looked_up, over_scheduled, scheduled_stops, scheduled_turns, stop_of}
use Rattle.loom.proofs.ModelLemmas.CoverSnapshots.{end_keeps, scheduled_keeps, stop_keeps}
use Rattle.loom.proofs.ModelLemmas.Handing.{joined}
use Rattle.loom.proofs.model.cover.run.from_snapshot.Goals as goal

pub take_turns-requires : goal.take_turns-requires
take_turns-requires g c =
    over_scheduled c.args.execution.now c.schedule.new.self c.args.path.now c.schedule.new.path (Ok (turn.Reply c.in-Ok-Reply.thread c.in-Ok-Reply.told)) c.requires (rw c.in-Ok-Reply.field-0-is at c.in-Ok-Reply.ensures.event)

pub take_turns-requires-in-Ok-Start : goal.take_turns-requires-in-Ok-Start
take_turns-requires-in-Ok-Start g c =
    over_scheduled c.args.execution.now c.schedule.new.self c.args.path.now c.schedule.new.path (Ok (turn.Start c.in-Ok-Start.thread)) c.requires (rw c.in-Ok-Start.field-0-is at c.in-Ok-Start.ensures.event)

pub returns-in-Ok-Reply-clause-along : goal.returns-in-Ok-Reply-clause-along
returns-in-Ok-Reply-clause-along g c = λ run h.
    c.take_turns.ensures.along run
    (scheduled_turns g.B.Body.next run c.args.bodies.now.items c.args.execution.now c.schedule.new.self c.args.path.now c.schedule.new.path (beside c.args.known.now c.args.states.now) (beside c.args.known.now c.args.states.now) c.requires c.schedule.ensures.same.0.0 h
    (turn.Reply c.in-Ok-Reply.thread c.in-Ok-Reply.told) (rw c.in-Ok-Reply.field-0-is at c.in-Ok-Reply.ensures.event)
    (not_looked_up c.args.execution.now.run c.args.bodies.now.items c.args.path.now (beside c.args.known.now c.args.states.now) (beside c.args.known.now c.args.states.now) refl) c.schedule.ensures.steps)

pub returns-in-Ok-Reply-clause-kept : goal.returns-in-Ok-Reply-clause-kept
returns-in-Ok-Reply-clause-kept g c = λ run h kept.
    c.take_turns.ensures.kept run
    (scheduled_turns g.B.Body.next run c.args.bodies.now.items c.args.execution.now c.schedule.new.self c.args.path.now c.schedule.new.path (beside c.args.known.now c.args.states.now) (beside c.args.known.now c.args.states.now) c.requires c.schedule.ensures.same.0.0 h
    (turn.Reply c.in-Ok-Reply.thread c.in-Ok-Reply.told) (rw c.in-Ok-Reply.field-0-is at c.in-Ok-Reply.ensures.event)
    (not_looked_up c.args.execution.now.run c.args.bodies.now.items c.args.path.now (beside c.args.known.now c.args.states.now) (beside c.args.known.now c.args.states.now) refl) c.schedule.ensures.steps)
    (scheduled_keeps g.B.Body.next run c.args.bodies.now.items c.args.execution.now c.schedule.new.self c.args.path.now c.schedule.new.path (beside c.args.known.now c.args.states.now) (beside c.args.known.now c.args.states.now) c.requires c.schedule.ensures.same.0.0 h
    (turn.Reply c.in-Ok-Reply.thread c.in-Ok-Reply.told) (rw c.in-Ok-Reply.field-0-is at c.in-Ok-Reply.ensures.event) c.args.snapshots.now kept)

pub returns-in-Ok-Reply-clause-same : goal.returns-in-Ok-Reply-clause-same
returns-in-Ok-Reply-clause-same g c = joined c.args.path.now c.schedule.new.path c.take_turns.new.path c.schedule.ensures.same.0 c.take_turns.ensures.same

pub returns-in-Ok-Start-clause-along : goal.returns-in-Ok-Start-clause-along
returns-in-Ok-Start-clause-along g c = λ run h.
    c.take_turns-in-Ok-Start.ensures.along run
    (scheduled_turns g.B.Body.next run c.args.bodies.now.items c.args.execution.now c.schedule.new.self c.args.path.now c.schedule.new.path (beside c.args.known.now c.args.states.now) (beside c.args.known.now c.args.states.now) c.requires c.schedule.ensures.same.0.0 h
    (turn.Start c.in-Ok-Start.thread) (rw c.in-Ok-Start.field-0-is at c.in-Ok-Start.ensures.event)
    (not_looked_up c.args.execution.now.run c.args.bodies.now.items c.args.path.now (beside c.args.known.now c.args.states.now) (beside c.args.known.now c.args.states.now) refl) c.schedule.ensures.steps)

pub returns-in-Ok-Start-clause-kept : goal.returns-in-Ok-Start-clause-kept
returns-in-Ok-Start-clause-kept g c = λ run h kept.
    c.take_turns-in-Ok-Start.ensures.kept run
    (scheduled_turns g.B.Body.next run c.args.bodies.now.items c.args.execution.now c.schedule.new.self c.args.path.now c.schedule.new.path (beside c.args.known.now c.args.states.now) (beside c.args.known.now c.args.states.now) c.requires c.schedule.ensures.same.0.0 h
    (turn.Start c.in-Ok-Start.thread) (rw c.in-Ok-Start.field-0-is at c.in-Ok-Start.ensures.event)
    (not_looked_up c.args.execution.now.run c.args.bodies.now.items c.args.path.now (beside c.args.known.now c.args.states.now) (beside c.args.known.now c.args.states.now) refl) c.schedule.ensures.steps)
    (scheduled_keeps g.B.Body.next run c.args.bodies.now.items c.args.execution.now c.schedule.new.self c.args.path.now c.schedule.new.path (beside c.args.known.now c.args.states.now) (beside c.args.known.now c.args.states.now) c.requires c.schedule.ensures.same.0.0 h
    (turn.Start c.in-Ok-Start.thread) (rw c.in-Ok-Start.field-0-is at c.in-Ok-Start.ensures.event) c.args.snapshots.now kept)

pub returns-in-Ok-Start-clause-same : goal.returns-in-Ok-Start-clause-same
returns-in-Ok-Start-clause-same g c = joined c.args.path.now c.schedule.new.path c.take_turns-in-Ok-Start.new.path c.schedule.ensures.same.0 c.take_turns-in-Ok-Start.ensures.same

pub returns-in-Ok-clause-along : goal.returns-in-Ok-clause-along
returns-in-Ok-clause-along g c = λ run h.
    end_of g.B.Body.next run (Ok c.in-Ok.turn) c.ended.result c.args.bodies.now.items c.schedule.new.self.run c.schedule.new.path (beside c.args.known.now c.args.states.now) c.ended.ensures
    (scheduled_turns g.B.Body.next run c.args.bodies.now.items c.args.execution.now c.schedule.new.self c.args.path.now c.schedule.new.path (beside c.args.known.now c.args.states.now) (beside c.args.known.now c.args.states.now) c.requires c.schedule.ensures.same.0.0 h
    c.in-Ok.turn c.in-Ok.ensures.event
    (not_looked_up c.args.execution.now.run c.args.bodies.now.items c.args.path.now (beside c.args.known.now c.args.states.now) (beside c.args.known.now c.args.states.now) refl) c.schedule.ensures.steps)

pub returns-in-Ok-clause-kept : goal.returns-in-Ok-clause-kept
returns-in-Ok-clause-kept g c = λ run h kept.
    end_keeps g.B.Body.next run (Ok c.in-Ok.turn) c.ended.result c.schedule.new.path c.args.snapshots.now c.ended.ensures
    (scheduled_keeps g.B.Body.next run c.args.bodies.now.items c.args.execution.now c.schedule.new.self c.args.path.now c.schedule.new.path (beside c.args.known.now c.args.states.now) (beside c.args.known.now c.args.states.now) c.requires c.schedule.ensures.same.0.0 h
    c.in-Ok.turn c.in-Ok.ensures.event c.args.snapshots.now kept)

pub returns-in-Err-clause-along : goal.returns-in-Err-clause-along
returns-in-Err-clause-along g c = λ run h.
    stop_of g.B.Body.next run c.in-Err.stop c.stopped.result c.args.bodies.now.items c.schedule.new.self.run c.schedule.new.path (beside c.args.known.now c.args.states.now) c.stopped.ensures
    (scheduled_stops g.B.Body.next run c.args.bodies.now.items c.args.execution.now c.schedule.new.self c.args.path.now c.schedule.new.path (beside c.args.known.now c.args.states.now) (beside c.args.known.now c.args.states.now) c.requires c.schedule.ensures.same.0.0 h
    c.in-Err.stop c.in-Err.ensures.event)

pub returns-in-Err-clause-kept : goal.returns-in-Err-clause-kept
returns-in-Err-clause-kept g c = λ run h kept. stop_keeps g.B.Body.next run c.in-Err.stop c.stopped.result c.schedule.new.path c.args.snapshots.now c.stopped.ensures
