use Rattle.loom_objects.proofs.rt.rwlock.rwlock_begins.Goals as goal
use Rattle.loom_objects.proofs.rt.rwlock.rwlock_begins.Goals.{in-New+in_ok-rwlock_new-in-New, in-Read, in-TryRead, in-ReadRelease, in-Write, in-TryWrite, in-WriteRelease, in-GetMut, in-Put, in-IntoInner}

pub returns-clause-does : goal.returns-clause-does
returns-clause-does g c = elim c.match-op.branch [
  | in-New+in_ok-rwlock_new-in-New w ↦ rw (w.in-New.is, w.begun-is, w.scene-is) w.in_ok-rwlock_new-in-New.ensures
  | in-Read w ↦ rw (w.in-Read.is, w.begun-is, w.scene-is) w.claim_begins-begun.ensures
  | in-TryRead w ↦ rw (w.in-TryRead.is, w.begun-is, w.scene-is) w.claim_begins-begun-in-TryRead.ensures
  | in-ReadRelease w ↦ rw (w.in-ReadRelease.is, w.begun-is, w.scene-is) w.read_release-begun.ensures
  | in-Write w ↦ rw (w.in-Write.is, w.begun-is, w.scene-is) w.claim_begins-begun-in-Write.ensures
  | in-TryWrite w ↦ rw (w.in-TryWrite.is, w.begun-is, w.scene-is) w.claim_begins-begun-in-TryWrite.ensures
  | in-WriteRelease w ↦ rw (w.in-WriteRelease.is, w.begun-is, w.scene-is) w.write_release-begun.ensures
  | in-GetMut w ↦ rw (w.in-GetMut.is, w.begun-is, w.scene-is) w.rwlock_get_mut-begun.ensures
  | in-Put w ↦ rw (w.in-Put.is, w.begun-is, w.scene-is) w.rwlock_put-begun.ensures
  | in-IntoInner w ↦ rw (w.in-IntoInner.is, w.begun-is, w.scene-is) w.rwlock_into_inner-begun.ensures
]
