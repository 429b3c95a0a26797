use Rattle.loom_objects.proofs.rt.waker.waker_begins.Goals as goal

pub returns-in_ok-block_on_new-in-New-clause-does : goal.returns-in_ok-block_on_new-in-New-clause-does
returns-in_ok-block_on_new-in-New-clause-does g c = rw c.in-New.is c.in_ok-block_on_new-in-New.ensures

pub returns-in-Wait-clause-does : goal.returns-in-Wait-clause-does
returns-in-Wait-clause-does g c = rw c.in-Wait.is c.block_on_wait.ensures

pub returns-in-Finish-clause-does : goal.returns-in-Finish-clause-does
returns-in-Finish-clause-does g c = rw c.in-Finish.is c.drop_begins.ensures

pub returns-in-Clone-clause-does : goal.returns-in-Clone-clause-does
returns-in-Clone-clause-does g c = rw c.in-Clone.is c.waker_pends.ensures

pub returns-in-Wake-clause-does : goal.returns-in-Wake-clause-does
returns-in-Wake-clause-does g c = rw c.in-Wake.is c.wake_begins.ensures

pub returns-in-WakeByRef-clause-does : goal.returns-in-WakeByRef-clause-does
returns-in-WakeByRef-clause-does g c = rw c.in-WakeByRef.is c.wake_begins-in-WakeByRef.ensures

pub returns-in-Drop-clause-does : goal.returns-in-Drop-clause-does
returns-in-Drop-clause-does g c = rw c.in-Drop.is c.drop_begins-in-Drop.ensures
