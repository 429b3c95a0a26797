-- What needs no memory leaves as many threads and objects as there were.
use Rattle.std.proofs.Common.{◌≡◌, ◌-◌, ℕ, suc, Bool, true, false, List, [], ◌∷◌, length, Option, Some, None, refl, ap}
use Rattle.std.specs.Prelude.{◌==◌, is_none, map, nat_lt, not, slice_get, slice_index, slice_set, Result, Ok, Err, ⊤}
use Rattle.std.specs.declared.sync.atomic.Ordering.{Ordering}
use Rattle.loom_views.specs.declared.rt.failure.FailureKind.{FailureKind}
use Rattle.loom_views.specs.declared.rt.failure.FailureKind.TheVariants.{Misuse, OpenAccess, RelaxedFence, SecondWaiter, TooManySteps}
use Rattle.loom_views.specs.Changes.{fit}
use Rattle.loom_views.specs.Limits.{highest_count}
use Rattle.loom_views.specs.Views.{Points, points_after_raise, points_after_read, points_after_unsync_load, points_after_with_mut, points_after_with_mut_end, points_after_write}
use Rattle.loom_objects.specs.declared.operation.ArcOp.{ArcOp}
use Rattle.loom_objects.specs.declared.operation.ArcOp.TheVariants as arc_op
use Rattle.loom_objects.specs.declared.operation.AtomicOp.{AtomicOp}
use Rattle.loom_objects.specs.declared.operation.AtomicOp.TheVariants as atomic_op
use Rattle.loom_objects.specs.declared.operation.AtomicWakerOp.{AtomicWakerOp}
use Rattle.loom_objects.specs.declared.operation.AtomicWakerOp.TheVariants as place_op
use Rattle.loom_objects.specs.declared.operation.CellOp.{CellOp}
use Rattle.loom_objects.specs.declared.operation.CellOp.TheVariants as cell_op
use Rattle.loom_objects.specs.declared.operation.ChannelOp.{ChannelOp}
use Rattle.loom_objects.specs.declared.operation.ChannelOp.TheVariants as channel_op
use Rattle.loom_objects.specs.declared.operation.CondvarOp.{CondvarOp}
use Rattle.loom_objects.specs.declared.operation.CondvarOp.TheVariants as condvar_op
use Rattle.loom_objects.specs.declared.operation.Keyed.{Keyed}
use Rattle.loom_objects.specs.declared.operation.LazyOp.{LazyOp}
use Rattle.loom_objects.specs.declared.operation.LazyOp.TheVariants as lazy_op
use Rattle.loom_objects.specs.declared.operation.LocalOp.{LocalOp}
use Rattle.loom_objects.specs.declared.operation.LocalOp.TheVariants as local_op
use Rattle.loom_objects.specs.declared.operation.MutexOp.{MutexOp}
use Rattle.loom_objects.specs.declared.operation.MutexOp.TheVariants as mutex_op
use Rattle.loom_objects.specs.declared.operation.NotifyOp.{NotifyOp}
use Rattle.loom_objects.specs.declared.operation.NotifyOp.TheVariants as notify_op
use Rattle.loom_objects.specs.declared.operation.RwLockOp.{RwLockOp}
use Rattle.loom_objects.specs.declared.operation.RwLockOp.TheVariants as lock_op
use Rattle.loom_objects.specs.declared.operation.ThreadOp.{ThreadOp}
use Rattle.loom_objects.specs.declared.operation.ThreadOp.TheVariants as thread_op
use Rattle.loom_objects.specs.declared.operation.TrackOp.{TrackOp}
use Rattle.loom_objects.specs.declared.operation.TrackOp.TheVariants as track_op
use Rattle.loom_objects.specs.declared.operation.WakerOp.{WakerOp}
use Rattle.loom_objects.specs.declared.operation.WakerOp.TheVariants as waker_op
use Rattle.loom_objects.specs.declared.rt.object.Object.{Object}
use Rattle.loom_objects.specs.declared.rt.object.Object.TheVariants as object
use Rattle.loom_objects.specs.declared.rt.mpsc.Channel.{Channel}
use Rattle.loom_objects.specs.declared.rt.notify.Notify.{Notify}
use Rattle.loom_objects.specs.declared.rt.thread.AfterDrop.TheVariants as dropped
use Rattle.loom_objects.specs.declared.rt.thread.AfterWake.{AfterWake}
use Rattle.loom_objects.specs.declared.rt.thread.AfterWake.TheVariants as woken
use Rattle.loom_objects.specs.declared.rt.thread.Claim.{Claim}
use Rattle.loom_objects.specs.declared.rt.thread.Claim.TheVariants.{Read, TryRead, Write, TryWrite}
use Rattle.loom_objects.specs.declared.rt.thread.Counting.TheVariants as counting
use Rattle.loom_objects.specs.declared.rt.thread.Locking.{Locking}
use Rattle.loom_objects.specs.declared.rt.thread.Locking.TheVariants.{Timed, Untimed}
use Rattle.loom_objects.specs.declared.rt.thread.Phase.TheVariants.{Exited, Finished, Over}
use Rattle.loom_objects.specs.declared.rt.thread.Taking.{Taking}
use Rattle.loom_objects.specs.declared.rt.thread.Taking.TheVariants as taking
use Rattle.loom_objects.specs.declared.rt.thread.Task.{Task}
use Rattle.loom_objects.specs.declared.rt.thread.Task.TheVariants as task
use Rattle.loom_objects.specs.declared.rt.thread.Thread.{Thread}
use Rattle.loom_objects.specs.declared.rt.thread.Waking.{Waking}
use Rattle.loom_objects.specs.declared.rt.thread.Waking.TheVariants.{All, One}
use Rattle.loom_objects.specs.Rules.Atomic.{access_begins, atomic_begins, fence, is_relaxed, needs_memory as atomic_needs_memory}
use Rattle.loom_objects.specs.Rules.Cell.{cell_begins, data_left, exchanges_cells, is_free, is_unread, opens_write, reads_open, swap_if, needs_memory as cell_needs_memory}
use Rattle.loom_objects.specs.Rules.Mpsc.{by_receiver, by_sender, channel_begins, drains_if, tries_recv, needs_memory as channel_needs_memory}
use Rattle.loom_objects.specs.Rules.Condvar.{condvar_begins, wait_begins, wake_begins, needs_memory as condvar_needs_memory}
use Rattle.loom_objects.specs.Rules.Arc.{arc_begins, comes_to, needs_memory as arc_needs_memory}
use Rattle.loom_objects.specs.Rules.Leaks.{is_none_left}
use Rattle.loom_objects.specs.Lent.{handed_back, value_in}
use Rattle.loom_objects.specs.Rules.Mutex.{free_value, frees, mutex_begins, needs_memory as mutex_needs_memory}
use Rattle.loom_objects.specs.Rules.Moves.{a_cell, a_condvar, a_mutex, a_notify, an_atomic_waker, a_rwlock, a_track, active_thread, an_arc, an_atomic, at_phase, changed_at, changes_active, is_number, unparks, wakes_if, with_object, with_points, with_thread, yields}
use Rattle.loom_objects.specs.Rules.Notify.{comes_to_wait, is_alone, is_for_waits, may_be_spurious, notify_begins, needs_memory as notify_needs_memory}
use Rattle.loom_objects.specs.Operation.Accessed.{accessed}
use Rattle.loom_objects.specs.Rules.Rule.{◌>>=◌, check, found}
use Rattle.loom_objects.specs.Rules.RwLock.{claim_begins, guards_of, is_unread as is_unread_lock, rwlock_begins, unlocked_value, with_one_fewer, needs_memory as rwlock_needs_memory}
use Rattle.loom_objects.specs.Rules.Thread.{finish_as, has_own, is_exited, is_finished, parks_unless, thread_begins, needs_memory as thread_needs_memory}
use Rattle.loom_objects.specs.Rules.Alloc.{track_begins, track_take, needs_memory as track_needs_memory}
use Rattle.loom_objects.specs.Rules.Locals.{is_working, lazy_begins, lazy_needs_memory, local_at, local_begins, local_needs_memory, puts_local}
use Rattle.loom_objects.specs.Rules.Waker.{atomic_waker_begins, atomic_waker_needs_memory, some_wakers, take_begins, wake_begins as wake_by_begins, waker_begins, waker_needs_memory, waker_pends}
use Rattle.loom_objects.specs.World.{World}
use Rattle.loom_engine.specs.Runs.Growth.{HasAsMany}
use Rattle.loom_engine.proofs.Runs.Answering.{Answers, answers_then}
use Rattle.loom_engine.proofs.Runs.Defaults.{set_length}

map_length : {A B : Type 0} (f : A → B) (xs : List A) → length (map f xs) ≡ length xs
map_length f [] = refl
map_length f (x ∷ xs) = ap suc (map_length f xs)

changed_length : {D : Type 0} (change : Thread D → Thread D) (t : ℕ) (o : Option (Thread D)) (threads : List (Thread D)) → length (changed_at change t o threads) ≡ length threads
changed_length change t None threads = refl
changed_length change t (Some thread) threads = set_length threads t (change thread)

module _ {D : Type 0} (w : World D) where
  -- it has as many threads and objects as there were
  abbrev pub Stays : {A : Type 0} → A × World D → Type 0
  Stays answered = HasAsMany w answered.1

  pub onward : {A B : Type 0} (r : Result B FailureKind) (next : B → Result (A × World D) FailureKind) → ((b : B) → Answers Stays (next b)) → Answers Stays (r >>= next)
  onward r next h = answers_then Stays r next h

  -- it goes on from where a rule leads
  pub from_there : {A B : Type 0} (r : Result (B × World D) FailureKind) (next : B × World D → Result (A × World D) FailureKind) → Answers Stays r
      → ((answered : B × World D) → Stays answered → Answers Stays (next answered)) → Answers Stays (r >>= next)
  from_there (Ok answered) next s h = h answered s
  from_there (Err kind) next s h = tt

  -- only points change
  pub by_points : {A : Type 0} (v : World D) (r : Result Points FailureKind) (next : World D → Result (A × World D) FailureKind) → ((p : Points) → Answers Stays (next (with_points p v)))
      → Answers Stays ((r >>= (λ p. Ok (with_points p v))) >>= next)
  by_points v (Ok p) next h = h p
  by_points v (Err kind) next h = tt

  -- ---- moves

  pub by_object : (v : World D) (n : ℕ) (x : Object D) → HasAsMany w v → HasAsMany w (with_object n x v)
  by_object v n x s = let e : length (slice_set v.objects n x) ≡ length v.objects = set_length v.objects n x in (s.0, cc (e, s.1))

  pub by_thread : (v : World D) (change : Thread D → Thread D) (t : ℕ) → HasAsMany w v → HasAsMany w (record v { threads = with_thread change t v.threads })
  by_thread v change t s =
      let e : length (with_thread change t v.threads) ≡ length v.threads = changed_length change t (slice_get v.threads t) v.threads in (cc (e, s.0), s.1)

  pub by_threads : (v : World D) (change : Thread D → Thread D) → HasAsMany w v → HasAsMany w (record v { threads = map change v.threads })
  by_threads v change s = let e : length (map change v.threads) ≡ length v.threads = map_length change v.threads in (cc (e, s.0), s.1)

  pub stayed : HasAsMany w w
  stayed = (refl, refl)

  -- ---- atomics

  access_stays : (access : AtomicOp) → Answers Stays (access_begins access w)
  access_stays access = onward (found (accessed access) Misuse) _ (λ n. onward (an_atomic n w) _ (λ u. by_thread w _ w.active stayed))

  pub atomic_stays : (todo : AtomicOp) → atomic_needs_memory todo ≡ false → Answers Stays (atomic_begins todo w)
  atomic_stays (atomic_op.New numbers value) h = absurd (cc h)
  atomic_stays (atomic_op.UnsyncLoad n) h = onward (an_atomic n w) _ (λ u. onward (points_after_unsync_load w.points w.active n) _ (λ read. stayed))
  atomic_stays (atomic_op.IntoInner n) h = onward (an_atomic n w) _ (λ u. onward (points_after_unsync_load w.points w.active n) _ (λ read. by_object w n _ stayed))
  atomic_stays (atomic_op.WithMut n) h = onward (an_atomic n w) _ (λ u. onward (points_after_with_mut w.points w.active n) _ (λ read. by_object w n _ stayed))
  atomic_stays (atomic_op.WithMutEnd n value) h =
      onward (an_atomic n w) _ (λ atomic. onward (check (is_number atomic.opened w.active) Misuse) _ (λ u.
      onward (points_after_with_mut_end w.points w.active n (fit atomic.numbers value)) _ (λ stored. by_object w n _ stayed)))
  atomic_stays (atomic_op.Load n order) h = access_stays (atomic_op.Load n order)
  atomic_stays (atomic_op.Store n value order) h = access_stays (atomic_op.Store n value order)
  atomic_stays (atomic_op.Update n change order) h = access_stays (atomic_op.Update n change order)
  atomic_stays (atomic_op.CompareExchange n exchange) h = access_stays (atomic_op.CompareExchange n exchange)
  atomic_stays (atomic_op.CompareAndSwap n expected new order) h = access_stays (atomic_op.CompareAndSwap n expected new order)

  pub fence_stays : (order : Ordering) → Answers Stays (fence order w)
  fence_stays order = by_points w (points_after_raise w.points w.active) _ (λ p. onward (check (not (is_relaxed order)) RelaxedFence) _ (λ u. stayed))

  -- ---- cells

  exchanges_stays : (n m : ℕ) (v : World D) → HasAsMany w v → Answers Stays (exchanges_cells n m v)
  exchanges_stays n m v s =
      onward (a_cell n v) _ (λ one. onward (a_cell m v) _ (λ other. onward (found (value_in one.content) Misuse) _ (λ of_one. onward (found (value_in other.content) Misuse) _ (λ of_other.
      by_points v (points_after_write v.points v.active m) _ (λ p. by_points (with_points p v) (points_after_write p v.active n) _ (λ q.
      by_object (with_object m _ (with_points q v)) n _ (by_object (with_points q v) m _ s)))))))

  opens_write_stays : (n : ℕ) (v : World D) → HasAsMany w v → Answers Stays (opens_write n v)
  opens_write_stays n v s =
      onward (a_cell n v) _ (λ cell. by_points v (points_after_raise v.points v.active) _ (λ p. onward (check (is_free cell) OpenAccess) _ (λ u.
      by_points (with_points p v) (points_after_write p v.active n) _ (λ q. s))))

  swap_stays : (is_same : Bool) (n m : ℕ) → Answers Stays (swap_if is_same n m w)
  swap_stays true n m = stayed
  swap_stays false n m =
      from_there (opens_write n w) _ (opens_write_stays n w stayed) (λ opened s. from_there (opens_write m opened.1) _ (opens_write_stays m opened.1 s) (λ both r. exchanges_stays n m both.1 r))

  pub cell_stays : (todo : CellOp D) → cell_needs_memory todo ≡ false → Answers Stays (cell_begins todo w)
  cell_stays (cell_op.New value) h = absurd (cc h)
  cell_stays (cell_op.Read n) h = absurd (cc h)
  cell_stays (cell_op.Deref n) h = absurd (cc h)
  cell_stays (cell_op.Get n) h = absurd (cc h)
  cell_stays (cell_op.ReadEnd n) h =
      onward (a_cell n w) _ (λ cell. onward (check (nat_lt 0 (reads_open w.active cell)) Misuse) _ (λ u. onward (check (is_none cell.content.lent) OpenAccess) _ (λ v.
      by_points w (points_after_read w.points w.active n) _ (λ p. by_object (with_points p w) n _ stayed))))
  cell_stays (cell_op.Write n) h =
      onward (a_cell n w) _ (λ cell. by_points w (points_after_raise w.points w.active) _ (λ p. onward (check (is_free cell) OpenAccess) _ (λ u.
      by_points (with_points p w) (points_after_write p w.active n) _ (λ q. onward (found (value_in cell.content) Misuse) _ (λ value. by_object (with_points q w) n _ stayed)))))
  cell_stays (cell_op.WriteEnd n value) h =
      onward (a_cell n w) _ (λ cell. onward (check (is_number cell.content.lent w.active) Misuse) _ (λ u. onward (check (is_unread cell) OpenAccess) _ (λ v.
      by_points w (points_after_write w.points w.active n) _ (λ p. by_object (with_points p w) n _ stayed))))
  cell_stays (cell_op.IntoInner n) h = onward (a_cell n w) _ (λ cell. onward (data_left cell) _ (λ value. by_object w n _ stayed))
  cell_stays (cell_op.Replace n new) h =
      onward (a_cell n w) _ (λ cell. by_points w (points_after_raise w.points w.active) _ (λ p. onward (check (is_free cell) OpenAccess) _ (λ u.
      by_points (with_points p w) (points_after_write p w.active n) _ (λ q. onward (found (value_in cell.content) Misuse) _ (λ value.
      by_points (with_points q w) (points_after_write q w.active n) _ (λ r. by_object (with_points r w) n _ stayed))))))
  cell_stays (cell_op.Swap n m) h = onward (a_cell n w) _ (λ u. onward (a_cell m w) _ (λ v. swap_stays (n == m) n m))

  -- ---- counted references and tracked values

  comes_to_stays : (todo : Task D) (n : ℕ) → Answers Stays (comes_to todo n w)
  comes_to_stays todo n = onward (an_arc n w) _ (λ arc. onward (check (nat_lt 0 arc.count) Misuse) _ (λ u. by_thread w _ w.active stayed))

  pub arc_stays : (todo : ArcOp D) → arc_needs_memory todo ≡ false → Answers Stays (arc_begins todo w)
  arc_stays (arc_op.New value) h = absurd (cc h)
  arc_stays (arc_op.Get n) h = absurd (cc h)
  arc_stays (arc_op.Put n value) h = onward (an_arc n w) _ (λ arc. onward (check (is_number arc.content.lent w.active) Misuse) _ (λ u. by_object w n _ stayed))
  arc_stays (arc_op.Clone n) h = comes_to_stays (task.Count counting.Clone n) n
  arc_stays (arc_op.Drop n) h = comes_to_stays (task.Count counting.Drop n) n
  arc_stays (arc_op.GetMut n) h = comes_to_stays (task.Count counting.GetMut n) n
  arc_stays (arc_op.StrongCount n) h = comes_to_stays (task.Count counting.StrongCount n) n
  arc_stays (arc_op.TryUnwrap n) h = comes_to_stays (task.TryUnwrap n) n

  take_stays : (n : ℕ) → Answers Stays (track_take n w)
  take_stays n = onward (a_track n w) _ (λ track. onward (found (value_in track.content) Misuse) _ (λ value. by_object w n _ stayed))

  pub track_stays : (todo : TrackOp D) → track_needs_memory todo ≡ false → Answers Stays (track_begins todo w)
  track_stays (track_op.New value) h = absurd (cc h)
  track_stays (track_op.GetRef n) h = absurd (cc h)
  track_stays (track_op.GetMut n) h = onward (a_track n w) _ (λ track. onward (found (value_in track.content) Misuse) _ (λ value. by_object w n _ stayed))
  track_stays (track_op.Put n value) h = onward (a_track n w) _ (λ track. onward (check (is_number track.content.lent w.active) Misuse) _ (λ u. by_object w n _ stayed))
  track_stays (track_op.IntoInner n) h = take_stays n
  track_stays (track_op.Drop n) h = take_stays n

  -- ---- locks

  frees_stays : (n : ℕ) (value : D) → Answers Stays (frees n value w)
  frees_stays n value =
      onward (a_mutex n w) _ (λ mutex. onward (check (is_number mutex.holder w.active) Misuse) _ (λ u. by_threads (with_object n (object.Mutex (record mutex { holder = None; content = handed_back value mutex.content })) w) _ (by_object w n _ stayed)))

  pub mutex_stays : (todo : MutexOp D) → mutex_needs_memory todo ≡ false → Answers Stays (mutex_begins todo w)
  mutex_stays (mutex_op.New value) h = absurd (cc h)
  mutex_stays (mutex_op.Lock n) h = onward (a_mutex n w) _ (λ mutex. by_thread w _ w.active stayed)
  mutex_stays (mutex_op.TryLock n) h = onward (a_mutex n w) _ (λ mutex. by_thread w _ w.active stayed)
  mutex_stays (mutex_op.Release n value) h = from_there (frees n value w) _ (frees_stays n value) (λ freed s. s)
  mutex_stays (mutex_op.GetMut n) h = onward (a_mutex n w) _ (λ mutex. onward (found (free_value mutex) Misuse) _ (λ value. by_object w n _ stayed))
  mutex_stays (mutex_op.Put n value) h = onward (a_mutex n w) _ (λ mutex. onward (check (is_number mutex.content.lent w.active) Misuse) _ (λ u. by_object w n _ stayed))
  mutex_stays (mutex_op.IntoInner n) h = onward (a_mutex n w) _ (λ mutex. onward (found (free_value mutex) Misuse) _ (λ value. by_object w n _ stayed))

  wakes_if_stays : (wakes : Bool) (n : ℕ) (v : World D) → HasAsMany w v → HasAsMany w (wakes_if wakes n v)
  wakes_if_stays true n v s = by_threads v _ s
  wakes_if_stays false n v s = s

  claim_stays : (claim : Claim) (n : ℕ) → Answers Stays (claim_begins claim n w)
  claim_stays claim n = onward (a_rwlock n w) _ (λ lock. by_thread w _ w.active stayed)

  pub rwlock_stays : (todo : RwLockOp D) → rwlock_needs_memory todo ≡ false → Answers Stays (rwlock_begins todo w)
  rwlock_stays (lock_op.New value) h = absurd (cc h)
  rwlock_stays (lock_op.Read n) h = claim_stays Read n
  rwlock_stays (lock_op.TryRead n) h = claim_stays TryRead n
  rwlock_stays (lock_op.Write n) h = claim_stays Write n
  rwlock_stays (lock_op.TryWrite n) h = claim_stays TryWrite n
  rwlock_stays (lock_op.ReadRelease n) h =
      onward (a_rwlock n w) _ (λ lock. onward (check (nat_lt 0 (guards_of w.active lock)) Misuse) _ (λ u.
      wakes_if_stays (is_unread_lock (with_one_fewer w.active lock)) n _ (by_object w n (object.RwLock (with_one_fewer w.active lock)) stayed)))
  rwlock_stays (lock_op.WriteRelease n value) h =
      onward (a_rwlock n w) _ (λ lock. onward (check (is_number lock.writer w.active) Misuse) _ (λ u.
      by_threads (with_object n (object.RwLock (record lock { writer = None; content = handed_back value lock.content })) w) _ (by_object w n _ stayed)))
  rwlock_stays (lock_op.GetMut n) h = onward (a_rwlock n w) _ (λ lock. onward (found (unlocked_value lock) Misuse) _ (λ value. by_object w n _ stayed))
  rwlock_stays (lock_op.Put n value) h = onward (a_rwlock n w) _ (λ lock. onward (check (is_number lock.content.lent w.active) Misuse) _ (λ u. by_object w n _ stayed))
  rwlock_stays (lock_op.IntoInner n) h = onward (a_rwlock n w) _ (λ lock. onward (found (unlocked_value lock) Misuse) _ (λ value. by_object w n _ stayed))

  -- ---- condition variables and notifiers

  wait_stays : (locking : Locking) (n m : ℕ) (value : D) → Answers Stays (wait_begins locking n m value w)
  wait_stays locking n m value =
      onward (a_condvar n w) _ (λ condvar. onward (a_mutex m w) _ (λ mutex. onward (check (is_number mutex.holder w.active) Misuse) _ (λ u. by_thread w _ w.active stayed)))

  wake_stays : (waking : Waking) (n : ℕ) → Answers Stays (wake_begins waking n w)
  wake_stays waking n = onward (a_condvar n w) _ (λ condvar. by_thread w _ w.active stayed)

  pub condvar_stays : (todo : CondvarOp D) → condvar_needs_memory todo ≡ false → Answers Stays (condvar_begins todo w)
  condvar_stays condvar_op.New h = absurd (cc h)
  condvar_stays (condvar_op.Wait n m value) h = wait_stays Untimed n m value
  condvar_stays (condvar_op.WaitTimeout n m value) h = wait_stays Timed n m value
  condvar_stays (condvar_op.NotifyOne n) h = wake_stays One n
  condvar_stays (condvar_op.NotifyAll n) h = wake_stays All n

  waits_stays : (may_be : Bool) (n : ℕ) (notifier : Notify) → Answers Stays (comes_to_wait may_be n notifier w)
  waits_stays true n notifier = stayed
  waits_stays false n notifier = by_thread (with_object n (object.Notify (record notifier { waiter = Some w.active })) w) _ w.active (by_object w n _ stayed)

  pub notifier_stays : (todo : NotifyOp) → notify_needs_memory todo ≡ false → Answers Stays (notify_begins todo w)
  notifier_stays notify_op.New h = absurd (cc h)
  notifier_stays (notify_op.Notify n) h = onward (a_notify n w) _ (λ notifier. onward (check (is_for_waits notifier.spurious) Misuse) _ (λ u. by_thread w _ w.active stayed))
  notifier_stays (notify_op.Wait n) h =
      onward (a_notify n w) _ (λ notifier. onward (check (is_for_waits notifier.spurious) Misuse) _ (λ u. onward (check (is_alone w.active notifier) SecondWaiter) _ (λ v.
      waits_stays (may_be_spurious notifier.spurious) n notifier)))

  -- ---- channels, wakers, places for wakers, and values

  tries_recv_stays : (is_empty : Bool) (n : ℕ) → Answers Stays (tries_recv is_empty n w)
  tries_recv_stays true n = stayed
  tries_recv_stays false n = by_thread w _ w.active stayed

  drains_if_stays : (is_some_left : Bool) (channel : Channel D) (n : ℕ) → Answers Stays (drains_if is_some_left channel n w)
  drains_if_stays true channel n = by_thread w _ w.active stayed
  drains_if_stays false channel n = by_object w n _ stayed

  pub channel_stays : (todo : ChannelOp D) → channel_needs_memory todo ≡ false → Answers Stays (channel_begins todo w)
  channel_stays channel_op.New h = absurd (cc h)
  channel_stays (channel_op.Send n value) h = absurd (cc h)
  channel_stays (channel_op.Recv n) h = onward (by_receiver n w) _ (λ channel. by_thread w _ w.active stayed)
  channel_stays (channel_op.TryRecv n) h = onward (by_receiver n w) _ (λ channel. tries_recv_stays (is_none_left channel.messages) n)
  channel_stays (channel_op.CloneSender n) h = onward (by_sender n w) _ (λ channel. onward (check (nat_lt channel.senders highest_count) TooManySteps) _ (λ u. by_object w n _ stayed))
  channel_stays (channel_op.DropSender n) h =
      onward (by_sender n w) _ (λ channel.
      wakes_if_stays (channel.senders == 1) n _ (by_object w n (object.Channel (record channel { senders = channel.senders - 1 })) stayed))
  channel_stays (channel_op.DropReceiver n) h = onward (by_receiver n w) _ (λ channel. drains_if_stays (nat_lt 0 (length channel.messages)) channel n)

  pends_stays : (todo : Task D) (c : ℕ) → Answers Stays (waker_pends todo c w)
  pends_stays todo c = onward (some_wakers c w) _ (λ wakers. by_thread w _ w.active stayed)

  wake_by_stays : (after : AfterWake) (c : ℕ) → Answers Stays (wake_by_begins after c w)
  wake_by_stays after c = onward (some_wakers c w) _ (λ wakers. by_thread w _ w.active stayed)

  pub waker_stays : (todo : WakerOp) → waker_needs_memory todo ≡ false → Answers Stays (waker_begins todo w)
  waker_stays waker_op.New h = absurd (cc h)
  waker_stays (waker_op.Wait c) h = onward (some_wakers c w) _ (λ wakers. notifier_stays (notify_op.Wait wakers.notifier) refl)
  waker_stays (waker_op.Finish c) h = pends_stays (task.DropWaker c dropped.Done) c
  waker_stays (waker_op.Clone c) h = pends_stays (task.CloneWaker c None) c
  waker_stays (waker_op.Wake c) h = wake_by_stays (woken.Drop dropped.Done) c
  waker_stays (waker_op.WakeByRef c) h = wake_by_stays woken.Done c
  waker_stays (waker_op.Drop c) h = pends_stays (task.DropWaker c dropped.Done) c

  take_waker_stays : (by : Taking) (p : ℕ) → Answers Stays (take_begins by p w)
  take_waker_stays by p = onward (an_atomic_waker p w) _ (λ place. by_thread w _ w.active stayed)

  pub place_stays : (todo : AtomicWakerOp) → atomic_waker_needs_memory todo ≡ false → Answers Stays (atomic_waker_begins todo w)
  place_stays place_op.New h = absurd (cc h)
  place_stays (place_op.Register p c) h = onward (an_atomic_waker p w) _ (λ place. pends_stays (task.Register p c) c)
  place_stays (place_op.RegisterByRef p c) h = onward (an_atomic_waker p w) _ (λ place. pends_stays (task.CloneWaker c (Some p)) c)
  place_stays (place_op.Wake p) h = take_waker_stays taking.Wake p
  place_stays (place_op.TakeWaker p) h = take_waker_stays taking.Answer p
  place_stays (place_op.Drop p) h = onward (an_atomic_waker p w) _ (λ place. by_object w p _ stayed)

  puts_local_stays : (key : ℕ) (value : D) (local : Option (Keyed D)) → Answers Stays (puts_local key value local w)
  puts_local_stays key value None = tt
  puts_local_stays key value (Some local) = by_thread w _ w.active stayed

  pub local_stays : (todo : LocalOp D) → local_needs_memory todo ≡ false → Answers Stays (local_begins todo w)
  local_stays (local_op.With key) h = absurd (cc h)
  local_stays (local_op.TryWith key) h = absurd (cc h)
  local_stays (local_op.Init key value) h = absurd (cc h)
  local_stays (local_op.Put key value) h = onward (active_thread w) _ (λ thread. puts_local_stays key value (local_at key thread))

  pub lazy_stays : (todo : LazyOp D) → lazy_needs_memory todo ≡ false → Answers Stays (lazy_begins todo w)
  lazy_stays (lazy_op.Get key) h = absurd (cc h)
  lazy_stays (lazy_op.Init key value) h = absurd (cc h)

  -- ---- threads

  finish_stays : (notifier : Option ℕ) (value : D) (v : World D) → HasAsMany w v → Answers Stays (finish_as notifier value v)
  finish_stays None value v s = by_thread v _ v.active s
  finish_stays (Some n) value v s = by_thread v _ v.active s

  parks_stays : (has_token : Bool) → Answers Stays (parks_unless has_token w)
  parks_stays true = by_thread w _ w.active stayed
  parks_stays false = by_thread w _ w.active stayed

  unparks_stays : (t : ℕ) → Answers Stays (unparks t w)
  unparks_stays t = onward (found (slice_get w.threads t) Misuse) _ (λ thread. by_thread w _ t stayed)

  yields_stays : (todo : Task D) → Answers Stays (yields todo w)
  yields_stays todo = onward (active_thread w) _ (λ thread. onward (check (nat_lt (slice_index w.yields w.active) highest_count) TooManySteps) _ (λ u. by_thread w _ w.active stayed))

  pub thread_stays : (todo : ThreadOp D ⊤) → thread_needs_memory todo ≡ false → Answers Stays (thread_begins todo w)
  thread_stays (thread_op.Spawn body name) h = absurd (cc h)
  thread_stays (thread_op.Join t n) h =
      onward (check (has_own (slice_get w.threads t) n) Misuse) _ (λ u. onward (a_notify n w) _ (λ notifier. onward (check (is_none notifier.waiter) Misuse) _ (λ v.
      by_thread (with_object n (object.Notify (record notifier { waiter = Some w.active })) w) _ w.active (by_object w n _ stayed))))
  thread_stays thread_op.Current h = onward (active_thread w) _ (λ thread. stayed)
  thread_stays thread_op.Park h = onward (active_thread w) _ (λ thread. parks_stays thread.has_token)
  thread_stays (thread_op.Unpark t) h = from_there (unparks t w) _ (unparks_stays t) (λ given s. s)
  thread_stays thread_op.Yield h = from_there (yields task.Continue w) _ (yields_stays task.Continue) (λ yielded s. s)
  thread_stays (thread_op.Finish value) h =
      onward (active_thread w) _ (λ thread. onward (check (is_working thread.phase) Misuse) _ (λ u.
      finish_stays thread.notifier value (changes_active (at_phase Finished) w) (by_thread w _ w.active stayed)))
  thread_stays thread_op.Exit h = onward (active_thread w) _ (λ thread. onward (check (is_finished thread.phase) Misuse) _ (λ u.
      by_thread (changes_active (at_phase Exited) w) _ w.active (by_thread w _ w.active stayed)))
  thread_stays thread_op.End h =
      onward (active_thread w) _ (λ thread. onward (check (is_exited thread.phase) Misuse) _ (λ u.
      by_thread (changes_active (at_phase Over) w) _ w.active (by_thread w _ w.active stayed)))
