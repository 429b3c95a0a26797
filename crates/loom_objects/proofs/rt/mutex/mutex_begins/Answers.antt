use Rattle.loom_objects.proofs.rt.mutex.mutex_begins.Goals as goal
use Rattle.loom_objects.proofs.rt.mutex.mutex_begins.Goals.{in-New+in_ok-mutex_new-in-New, in-Lock, in-TryLock, in-Release, in-GetMut, in-Put, in-IntoInner}

pub returns-clause-does : goal.returns-clause-does
returns-clause-does g c = elim c.match-op.branch [
  | in-New+in_ok-mutex_new-in-New w ↦ rw (w.in-New.is, w.begun-is, w.scene-is) w.in_ok-mutex_new-in-New.ensures
  | in-Lock w ↦ rw (w.in-Lock.is, w.begun-is, w.scene-is) w.lock_begins-begun.ensures
  | in-TryLock w ↦ rw (w.in-TryLock.is, w.begun-is, w.scene-is) w.try_lock_begins-begun.ensures
  | in-Release w ↦ rw (w.in-Release.is, w.begun-is, w.scene-is) w.release-begun.ensures
  | in-GetMut w ↦ rw (w.in-GetMut.is, w.begun-is, w.scene-is) w.mutex_get_mut-begun.ensures
  | in-Put w ↦ rw (w.in-Put.is, w.begun-is, w.scene-is) w.mutex_put-begun.ensures
  | in-IntoInner w ↦ rw (w.in-IntoInner.is, w.begun-is, w.scene-is) w.mutex_into_inner-begun.ensures
]
