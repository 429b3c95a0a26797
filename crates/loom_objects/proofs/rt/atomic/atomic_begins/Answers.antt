use Rattle.loom_objects.specs.Rules.Atomic.{atomic_begins, access_begins}
use Rattle.loom_objects.specs.Scene.Stage.{world_of}
use Rattle.loom_objects.proofs.Scene.Showing.{does_as}
use Rattle.loom_objects.proofs.Sync.Accessing.{comes_to_branch}
use Rattle.loom_objects.proofs.rt.atomic.atomic_begins.Goals as goal
use Rattle.loom_objects.proofs.rt.atomic.atomic_begins.Goals.{in-New+in_ok-atomic_new-in-New, in-UnsyncLoad, in-IntoInner, in-WithMut, in-WithMutEnd, in-Load}

pub returns-clause-does : goal.returns-clause-does
returns-clause-does g c = elim c.match-op.branch [
  | in-New+in_ok-atomic_new-in-New w ↦ rw (w.in-New.is, w.begun-is, w.scene-is) w.in_ok-atomic_new-in-New.ensures
  | in-UnsyncLoad w ↦ rw (w.in-UnsyncLoad.is, w.begun-is, w.scene-is) w.unsync_load-begun.ensures
  | in-IntoInner w ↦ rw (w.in-IntoInner.is, w.begun-is, w.scene-is) w.into_inner-begun.ensures
  | in-WithMut w ↦ rw (w.in-WithMut.is, w.begun-is, w.scene-is) w.with_mut-begun.ensures
  | in-WithMutEnd w ↦ rw (w.in-WithMutEnd.is, w.begun-is, w.scene-is) w.with_mut_end-begun.ensures
  | in-Load w ↦ rw (w.begun-is, w.scene-is)
      (does_as (atomic_begins c.args.op) (access_begins c.args.op) _ _ _ (λ p left. comes_to_branch c.args.op (world_of p left c.args.scene.now) w.in-Load.is) w.access_begins-begun.ensures)
]
