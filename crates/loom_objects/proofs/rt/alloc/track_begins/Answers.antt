use Rattle.loom_objects.proofs.rt.alloc.track_begins.Goals as goal

pub returns-in_ok-track_new-in-New-clause-does : goal.returns-in_ok-track_new-in-New-clause-does
returns-in_ok-track_new-in-New-clause-does g c = rw c.in-New.is c.in_ok-track_new-in-New.ensures

pub returns-in-GetRef-clause-does : goal.returns-in-GetRef-clause-does
returns-in-GetRef-clause-does g c = rw (c.in-GetRef.is, c.memory_outside.ensures) c.track_get_ref.ensures

pub returns-in-GetMut-clause-does : goal.returns-in-GetMut-clause-does
returns-in-GetMut-clause-does g c = rw c.in-GetMut.is c.track_get_mut.ensures

pub returns-in-Put-clause-does : goal.returns-in-Put-clause-does
returns-in-Put-clause-does g c = rw c.in-Put.is c.track_put.ensures

pub returns-in-IntoInner-clause-does : goal.returns-in-IntoInner-clause-does
returns-in-IntoInner-clause-does g c = rw c.in-IntoInner.is c.track_take.ensures

pub returns-in-Drop-clause-does : goal.returns-in-Drop-clause-does
returns-in-Drop-clause-does g c = rw c.in-Drop.is c.track_take-in-Drop.ensures
