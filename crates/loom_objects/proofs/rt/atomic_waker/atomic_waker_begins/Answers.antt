use Rattle.loom_objects.proofs.rt.atomic_waker.atomic_waker_begins.Goals as goal

pub returns-in_ok-atomic_waker_new-in-New-clause-does : goal.returns-in_ok-atomic_waker_new-in-New-clause-does
returns-in_ok-atomic_waker_new-in-New-clause-does g c = rw c.in-New.is c.in_ok-atomic_waker_new-in-New.ensures

pub returns-in-Register-clause-does : goal.returns-in-Register-clause-does
returns-in-Register-clause-does g c = rw c.in-Register.is c.register_begins.ensures

pub returns-in-RegisterByRef-clause-does : goal.returns-in-RegisterByRef-clause-does
returns-in-RegisterByRef-clause-does g c = rw c.in-RegisterByRef.is c.register_by_ref_begins.ensures

pub returns-in-Wake-clause-does : goal.returns-in-Wake-clause-does
returns-in-Wake-clause-does g c = rw c.in-Wake.is c.take_begins.ensures

pub returns-in-TakeWaker-clause-does : goal.returns-in-TakeWaker-clause-does
returns-in-TakeWaker-clause-does g c = rw c.in-TakeWaker.is c.take_begins-in-TakeWaker.ensures

pub returns-in-Drop-clause-does : goal.returns-in-Drop-clause-does
returns-in-Drop-clause-does g c = rw c.in-Drop.is c.atomic_waker_drop.ensures
