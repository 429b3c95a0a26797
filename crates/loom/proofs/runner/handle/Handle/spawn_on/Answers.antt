use Rattle.std.proofs.Common.{◌≡◌, None, Some}
use Rattle.loom_objects.specs.declared.operation.Reply.TheVariants as reply
use Rattle.loom.specs.Runner.Histories.{entry}
use Rattle.loom.proofs.RunnerLemmas.Remembering.{still_stopped, stops_new, pushed, remembers_reply, remembers_stop}
use Rattle.loom.proofs.runner.handle.Handle.spawn_on.Goals as goal

pub returns-in-Some-clause-stopped : goal.returns-in-Some-clause-stopped
returns-in-Some-clause-stopped g c = rw (← c.self.view_is) (still_stopped c.self.inside.told.items _ c.self.inside.stop c.in-Some.stop c.self.invariant c.in-Some.is)

pub invariant_of-self-in-Ok : goal.invariant_of-self-in-Ok
invariant_of-self-in-Ok g c =
    let none : c.self.inside.stop ≡ None = c.in_default.is in
    remembers_reply c.self.inside.told.items c.note_started.new.told.items _ (reply.Spawned c.in-Ok.handle.thread c.in-Ok.handle.name c.in-Ok.handle.notifier) c.self.inside.stop c.self.invariant none
    (pushed c.self.inside.told.items c.has_room.new.list.items c.note_started.new.told.items (entry _ (Some (reply.Spawned c.in-Ok.handle.thread c.in-Ok.handle.name c.in-Ok.handle.notifier)))
    c.in-Ok.ensures.answered c.has_room.ensures.same)

pub returns-in-Ok-clause-live : goal.returns-in-Ok-clause-live
returns-in-Ok-clause-live g c =
    let none : c.self.inside.stop ≡ None = c.in_default.is in
    rw (← c.self.view_is) (c.self.invariant.goes_on none)

pub returns-in-Ok-clause-answered : goal.returns-in-Ok-clause-answered
returns-in-Ok-clause-answered g c =
    rw (← c.self.view_is)
    (pushed c.self.inside.told.items c.has_room.new.list.items c.note_started.new.told.items (entry _ (Some (reply.Spawned c.in-Ok.handle.thread c.in-Ok.handle.name c.in-Ok.handle.notifier)))
    c.in-Ok.ensures.answered c.has_room.ensures.same)

pub invariant_of-self-in-Err : goal.invariant_of-self-in-Err
invariant_of-self-in-Err g c =
    remembers_stop c.self.inside.told.items c.note_started.new.told.items _ c.in-Err.stop
    (pushed c.self.inside.told.items c.has_room.new.list.items c.note_started.new.told.items (entry _ None) c.in-Err.ensures.stopped c.has_room.ensures.same)

pub returns-in-Err-clause-stopped : goal.returns-in-Err-clause-stopped
returns-in-Err-clause-stopped g c =
    let none : c.self.inside.stop ≡ None = c.in_default.is in
    rw (← c.self.view_is)
    (stops_new c.self.inside.told.items c.note_started.new.told.items _ c.in-Err.stop (c.self.invariant.goes_on none)
    (pushed c.self.inside.told.items c.has_room.new.list.items c.note_started.new.told.items (entry _ None) c.in-Err.ensures.stopped c.has_room.ensures.same))
