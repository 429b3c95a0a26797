-- What leaves the global point where it was.
use Rattle.std.proofs.Common.{◌≢◌, ℕ, Bool, true, false, refl, ◌∙◌, Option, Some, None, Result, Ok, Err}
use Rattle.std.specs.Prelude.{IfOk, length, nat_le, nat_lt, if◌then◌else◌}
use Rattle.std.specs.List.{slice_get}
use Rattle.std.specs.declared.sync.atomic.Ordering.{Ordering}
use Rattle.std.specs.declared.sync.atomic.Ordering.TheVariants.{Relaxed, Release, Acquire, AcqRel, SeqCst}
use Rattle.loom_views.specs.declared.rt.failure.FailureKind.{FailureKind}
use Rattle.loom_views.specs.declared.rt.failure.FailureKind.TheVariants.{TooManyThreads, TooManyVersions}
use Rattle.loom_views.specs.Graph.{Graph, raised}
use Rattle.loom_views.specs.ThreadViews.{ThreadPoints}
use Rattle.loom_views.specs.Atomic.History.{Scene, Answer, load_step, store_step, update_read_step, update_write_step, unsync_load_step, mutate_step, mutate_end_step}
use Rattle.loom_views.specs.CellAccesses.{Accesses, read_step, write_step}
use Rattle.loom_views.specs.Views.{Place, Meets, Keeps, Records, Points, add_cell_by, recorded, record_by, accessed, access, access_by, scene_of, raise_by, acquire_by, release_by, stamp_by, stamp_release_by, stamp_acquire_by, fence_by, yield_by, spawn_by, join_by, add_atomic_by, update_fail_by, acquire_fence_by, points_after_fence, points_after_acquire_fence}
use Rattle.loom_views.specs.Laws.Views.{IsGlobalKept, GlobalLaw}

module _ (p : Points) where
  room-kept : (a : Bool) (after : Points) (kind : FailureKind) → IsGlobalKept p after → IfOk (if a then Ok after else Err kind) (λ after. IsGlobalKept p after)
  room-kept true after kind h = h
  room-kept false after kind h = tt

  raise-kept : (t : ℕ) (o : Option ThreadPoints) → IfOk (raise_by p t o) (λ after. IsGlobalKept p after)
  raise-kept t None = tt
  raise-kept t (Some own) = room-kept (nat_lt (length (raised p.graph t)) 65534) _ TooManyVersions refl

  acquire-kept : (t : ℕ) (o : Option ThreadPoints) (q : Option Place) → IsGlobalKept p (acquire_by p t o q)
  acquire-kept t None q = refl
  acquire-kept t (Some own) None = refl
  acquire-kept t (Some own) (Some (Meets k)) = refl
  acquire-kept t (Some own) (Some (Keeps history)) = refl
  acquire-kept t (Some own) (Some (Records cell)) = refl

  release-kept : (n : ℕ) (order : Ordering) (o : Option ThreadPoints) (q : Option Place) → IsGlobalKept p (release_by p n order o q)
  release-kept n order None q = refl
  release-kept n order (Some own) None = refl
  release-kept n order (Some own) (Some (Meets k)) = refl
  release-kept n order (Some own) (Some (Keeps history)) = refl
  release-kept n order (Some own) (Some (Records cell)) = refl

  release_fence-kept : (t : ℕ) (o : Option ThreadPoints) → IsGlobalKept p (fence_by p t o)
  release_fence-kept t None = refl
  release_fence-kept t (Some own) = refl

  acquire_fence-kept : (t : ℕ) (o : Option ThreadPoints) → IsGlobalKept p (acquire_fence_by p t o)
  acquire_fence-kept t None = refl
  acquire_fence-kept t (Some own) = refl

  yield-kept : (t : ℕ) (o : Option ThreadPoints) → IsGlobalKept p (yield_by p t o)
  yield-kept t None = refl
  yield-kept t (Some own) = refl

  atomic-kept : (t value : ℕ) (o : Option ThreadPoints) → IsGlobalKept p (add_atomic_by p t value o)
  atomic-kept t value None = refl
  atomic-kept t value (Some own) = refl

  spawn-kept : (t : ℕ) (o : Option ThreadPoints) → IfOk (spawn_by p t o) (λ after. IsGlobalKept p after)
  spawn-kept t None = tt
  spawn-kept t (Some own) = tested (nat_le 5 (length p.threads)) _ (room-kept (nat_lt (length (raised p.graph t)) 65534) _ TooManyVersions refl)
    where
      tested : (a : Bool) (r : Result Points FailureKind) → IfOk r (λ after. IsGlobalKept p after) → IfOk (if a then Err TooManyThreads else r) (λ after. IsGlobalKept p after)
      tested true r h = tt
      tested false r h = h

  stamp-kept : (m : ℕ) (q : Option Place) → IsGlobalKept p (stamp_by p m q)
  stamp-kept m None = refl
  stamp-kept m (Some (Meets k)) = refl
  stamp-kept m (Some (Keeps history)) = refl
  stamp-kept m (Some (Records cell)) = refl

  stamp_release-kept : (m : ℕ) (order : Ordering) (o : Option ThreadPoints) (q : Option ℕ) → IsGlobalKept p (stamp_release_by p m order o q)
  stamp_release-kept m order None q = refl
  stamp_release-kept m order (Some own) None = refl
  stamp_release-kept m order (Some own) (Some k) = refl

  stamp_acquire-kept : (t : ℕ) (o : Option ThreadPoints) (q : Option ℕ) → IsGlobalKept p (stamp_acquire_by p t o q)
  stamp_acquire-kept t None q = refl
  stamp_acquire-kept t (Some own) None = refl
  stamp_acquire-kept t (Some own) (Some k) = refl

  join-kept : (t : ℕ) (o q : Option ThreadPoints) → IsGlobalKept p (join_by p t o q)
  join-kept t None q = refl
  join-kept t (Some own) None = refl
  join-kept t (Some own) (Some other) = refl

  update_fail-kept : (t slot : ℕ) (order : Ordering) (o : Option ThreadPoints) (q : Option Place) → IsGlobalKept p (update_fail_by p t slot order o q)
  update_fail-kept t slot order None q = refl
  update_fail-kept t slot order (Some own) None = refl
  update_fail-kept t slot order (Some own) (Some (Meets k)) = refl
  update_fail-kept t slot order (Some own) (Some (Keeps history)) = refl
  update_fail-kept t slot order (Some own) (Some (Records cell)) = refl

  access-kept : (t n : ℕ) (step : Scene → Result Answer FailureKind) → IfOk (access p t n step) (λ after. IsGlobalKept p after.points)
  access-kept t n step = go (slice_get p.threads t) (slice_get p.places n)
    where
      answered : (r : Result Answer FailureKind) → IfOk (accessed p t n r) (λ after. IsGlobalKept p after.points)
      answered (Ok answer) = refl
      answered (Err kind) = tt

      go : (o : Option ThreadPoints) (q : Option Place) → IfOk (access_by p t n step o q) (λ after. IsGlobalKept p after.points)
      go None q = tt
      go (Some own) None = tt
      go (Some own) (Some (Meets k)) = tt
      go (Some own) (Some (Records cell)) = tt
      go (Some own) (Some (Keeps history)) = answered (step (scene_of p own history))

  cell-kept : (o : Option ThreadPoints) → IsGlobalKept p (add_cell_by p o)
  cell-kept None = refl
  cell-kept (Some own) = refl

  record-kept : (n : ℕ) (step : Graph → ℕ → Accesses → Result Accesses FailureKind) (o : Option ThreadPoints) (q : Option Place) → IfOk (record_by p n step o q) (λ after. IsGlobalKept p after)
  record-kept n step None q = tt
  record-kept n step (Some own) None = tt
  record-kept n step (Some own) (Some (Meets k)) = tt
  record-kept n step (Some own) (Some (Keeps history)) = tt
  record-kept n step (Some own) (Some (Records cell)) = led (step p.graph own.present cell)
    where
      led : (r : Result Accesses FailureKind) → IfOk (recorded p n r) (λ after. IsGlobalKept p after)
      led (Ok after) = refl
      led (Err kind) = tt

fence-kept : (p : Points) (t : ℕ) (order : Ordering) → order ≢ SeqCst → IsGlobalKept p (points_after_fence p t order)
fence-kept p t Relaxed d = refl
fence-kept p t Acquire d = acquire_fence-kept p t (slice_get p.threads t)
fence-kept p t Release d = release_fence-kept p t (slice_get p.threads t)
fence-kept p t AcqRel d =
    let one = points_after_acquire_fence p t in
    release_fence-kept one t (slice_get one.threads t) ∙ acquire_fence-kept p t (slice_get p.threads t)
fence-kept p t SeqCst d = absurd (d refl)

pub global_stays_law : GlobalLaw
global_stays_law p = record {
  raise = λ t. raise-kept p t (slice_get p.threads t);
  acquire = λ t n. acquire-kept p t (slice_get p.threads t) (slice_get p.places n);
  release = λ t n order. release-kept p n order (slice_get p.threads t) (slice_get p.places n);
  release_fence = λ t. release_fence-kept p t (slice_get p.threads t);
  acquire_fence = λ t. acquire_fence-kept p t (slice_get p.threads t);
  fence = fence-kept p;
  yielding = λ t. yield-kept p t (slice_get p.threads t);
  new_point = refl;
  new_stamp = refl;
  stamp = λ n m. stamp-kept p m (slice_get p.places n);
  release_to_stamp = λ t m order. stamp_release-kept p m order (slice_get p.threads t) (slice_get p.stamps m);
  acquire_from_stamp = λ t m. stamp_acquire-kept p t (slice_get p.threads t) (slice_get p.stamps m);
  new_atomic = λ t value. atomic-kept p t value (slice_get p.threads t);
  new_cell = λ t. cell-kept p (slice_get p.threads t);
  spawn = λ t. spawn-kept p t (slice_get p.threads t);
  join = λ t u. join-kept p t (slice_get p.threads t) (slice_get p.threads u);
  load = λ t n slot order. access-kept p t n (λ s. load_step t s slot order);
  store = λ t n value order. access-kept p t n (λ s. store_step t s value order);
  update_read = λ t n slot. access-kept p t n (λ s. update_read_step t s slot);
  update_write = λ t n slot value order. access-kept p t n (λ s. update_write_step t s slot value order);
  update_fail = λ t n slot order. update_fail-kept p t slot order (slice_get p.threads t) (slice_get p.places n);
  unsync_load = λ t n. access-kept p t n unsync_load_step;
  with_mut = λ t n. access-kept p t n mutate_step;
  with_mut_end = λ t n value. access-kept p t n (λ s. mutate_end_step s value);
  read = λ t n. record-kept p n read_step (slice_get p.threads t) (slice_get p.places n);
  write = λ t n. record-kept p n write_step (slice_get p.threads t) (slice_get p.places n);
}
