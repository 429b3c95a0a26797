use Rattle.std.proofs.Common.{◌≡◌, None}
use Rattle.loom.specs.Runner.Histories.{entry}
use Rattle.loom.specs.Runner.Handle.{failing}
use Rattle.loom.proofs.RunnerLemmas.Remembering.{still_stopped, stops_new, pushed, remembers_stop}
use Rattle.loom.proofs.runner.handle.Handle.fail.Goals as goal

pub returns-in-Some-clause-stopped : goal.returns-in-Some-clause-stopped
returns-in-Some-clause-stopped g c = rw (← c.self.view_is) (still_stopped c.self.inside.told.items failing c.self.inside.stop c.in-Some.stop c.self.invariant c.in-Some.is)

pub invariant_of-self-2 : goal.invariant_of-self-2
invariant_of-self-2 g c =
    remembers_stop c.self.inside.told.items c.push_reserved.new.self.items failing c.fail-stop.result
    (pushed c.self.inside.told.items c.has_room.new.list.items c.push_reserved.new.self.items (entry failing None) c.push_reserved.ensures.items c.has_room.ensures.same)

pub returns-clause-stopped : goal.returns-clause-stopped
returns-clause-stopped g c =
    let none : c.self.inside.stop ≡ None = c.in_default.is in
    rw (← c.self.view_is)
    (stops_new c.self.inside.told.items c.push_reserved.new.self.items failing c.fail-stop.result (c.self.invariant.goes_on none)
    (pushed c.self.inside.told.items c.has_room.new.list.items c.push_reserved.new.self.items (entry failing None) c.push_reserved.ensures.items c.has_room.ensures.same))
