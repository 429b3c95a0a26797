use Rattle.loom_objects.proofs.rt.condvar.condvar_begins.Goals as goal
use Rattle.loom_objects.proofs.rt.condvar.condvar_begins.Goals.{in-New+in_ok-condvar_new-in-New, in-Wait, in-WaitTimeout, in-NotifyOne, in-NotifyAll}

pub returns-clause-does : goal.returns-clause-does
returns-clause-does g c = elim c.match-op.branch [
  | in-New+in_ok-condvar_new-in-New w ↦ rw (w.in-New.is, w.begun-is, w.scene-is) w.in_ok-condvar_new-in-New.ensures
  | in-Wait w ↦ rw (w.in-Wait.is, w.begun-is, w.scene-is) w.condvar_wait_begins-begun.ensures
  | in-WaitTimeout w ↦ rw (w.in-WaitTimeout.is, w.begun-is, w.scene-is) w.condvar_wait_begins-begun-in-WaitTimeout.ensures
  | in-NotifyOne w ↦ rw (w.in-NotifyOne.is, w.begun-is, w.scene-is) w.wake_begins-begun.ensures
  | in-NotifyAll w ↦ rw (w.in-NotifyAll.is, w.begun-is, w.scene-is) w.wake_begins-begun-in-NotifyAll.ensures
]
