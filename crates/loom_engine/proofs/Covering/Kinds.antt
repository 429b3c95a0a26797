-- The rules of locks, counts, channels, threads, values and wakers look at points by moves alone.
use Rattle.std.proofs.Common.{◌≡◌, ℕ, Bool, true, false, List, [], ◌∷◌, ◌++◌, length, Option, Some, None, refl, sym, subst, inl}
use Rattle.std.specs.Prelude.{◌+◌, ◌-◌, ◌==◌, ◌&&◌, not, nat_lt, is_none, is_some, slice_get, slice_index, Result, Ok, Err, ⊤}
use Rattle.std.specs.declared.sync.atomic.Ordering.TheVariants.{Release, AcqRel}
use Rattle.loom_views.specs.Limits.{highest_count}
use Rattle.loom_views.specs.Views.{Points, points_after_spawn, points_after_acquire, points_after_release, points_after_stamp, points_after_stamp_acquire, points_after_yield, points_with_stamp, points_with_point}
use Rattle.loom_views.specs.declared.rt.failure.FailureKind.{FailureKind}
use Rattle.loom_views.specs.declared.rt.failure.FailureKind.TheVariants.{KeyTaken, LazyShutdown, LocalGone, Misuse, SecondWaiter, TooManySteps, TooManyThreads}
use Rattle.loom_objects.specs.declared.operation.ArcOp.{ArcOp}
use Rattle.loom_objects.specs.declared.operation.ArcOp.TheVariants as arc_op
use Rattle.loom_objects.specs.declared.operation.AtomicWakerOp.{AtomicWakerOp}
use Rattle.loom_objects.specs.declared.operation.AtomicWakerOp.TheVariants as place_op
use Rattle.loom_objects.specs.declared.operation.ChannelOp.{ChannelOp}
use Rattle.loom_objects.specs.declared.operation.ChannelOp.TheVariants as channel_op
use Rattle.loom_objects.specs.declared.operation.CondvarOp.{CondvarOp}
use Rattle.loom_objects.specs.declared.operation.CondvarOp.TheVariants as condvar_op
use Rattle.loom_objects.specs.declared.operation.Keyed.{Keyed}
use Rattle.loom_objects.specs.declared.operation.Lazy.{Lazy}
use Rattle.loom_objects.specs.declared.operation.LazyOp.{LazyOp}
use Rattle.loom_objects.specs.declared.operation.LazyOp.TheVariants as lazy_op
use Rattle.loom_objects.specs.declared.operation.LocalOp.{LocalOp}
use Rattle.loom_objects.specs.declared.operation.LocalOp.TheVariants as local_op
use Rattle.loom_objects.specs.declared.operation.Message.{Message}
use Rattle.loom_objects.specs.declared.operation.MutexOp.{MutexOp}
use Rattle.loom_objects.specs.declared.operation.MutexOp.TheVariants as mutex_op
use Rattle.loom_objects.specs.declared.operation.NotifyOp.{NotifyOp}
use Rattle.loom_objects.specs.declared.operation.NotifyOp.TheVariants as notify_op
use Rattle.loom_objects.specs.declared.operation.Reply.TheVariants as reply
use Rattle.loom_objects.specs.declared.operation.RwLockOp.{RwLockOp}
use Rattle.loom_objects.specs.declared.operation.RwLockOp.TheVariants as lock_op
use Rattle.loom_objects.specs.declared.operation.ThreadOp.{ThreadOp}
use Rattle.loom_objects.specs.declared.operation.ThreadOp.TheVariants as thread_op
use Rattle.loom_objects.specs.declared.operation.TrackOp.{TrackOp}
use Rattle.loom_objects.specs.declared.operation.TrackOp.TheVariants as track_op
use Rattle.loom_objects.specs.declared.operation.WakerOp.{WakerOp}
use Rattle.loom_objects.specs.declared.operation.WakerOp.TheVariants as waker_op
use Rattle.loom_objects.specs.declared.rt.atomic_waker.AtomicWaker.{AtomicWaker}
use Rattle.loom_objects.specs.declared.rt.mpsc.Channel.{Channel}
use Rattle.loom_objects.specs.declared.rt.notify.Notify.{Notify}
use Rattle.loom_objects.specs.declared.rt.notify.Spurious.TheVariants.{Waking}
use Rattle.loom_objects.specs.declared.rt.run.Entry.{Entry}
use Rattle.loom_objects.specs.declared.rt.run.Entry.TheVariants.{Answered, AtBranch}
use Rattle.loom_objects.specs.declared.rt.rwlock.RwLock.{RwLock}
use Rattle.loom_objects.specs.declared.rt.thread.AfterDrop.{AfterDrop}
use Rattle.loom_objects.specs.declared.rt.thread.AfterDrop.TheVariants as dropped
use Rattle.loom_objects.specs.declared.rt.thread.AfterWake.{AfterWake}
use Rattle.loom_objects.specs.declared.rt.thread.AfterWake.TheVariants as woken
use Rattle.loom_objects.specs.declared.rt.thread.Claim.{Claim}
use Rattle.loom_objects.specs.declared.rt.thread.Claim.TheVariants as claim
use Rattle.loom_objects.specs.declared.rt.thread.Counting.{Counting}
use Rattle.loom_objects.specs.declared.rt.thread.Counting.TheVariants as counting
use Rattle.loom_objects.specs.declared.rt.thread.Locking.{Locking}
use Rattle.loom_objects.specs.declared.rt.thread.Locking.TheVariants as locking
use Rattle.loom_objects.specs.declared.rt.thread.Receiving.{Receiving}
use Rattle.loom_objects.specs.declared.rt.thread.Phase.TheVariants.{Finished}
use Rattle.loom_objects.specs.declared.rt.thread.Taking.{Taking}
use Rattle.loom_objects.specs.declared.rt.thread.Taking.TheVariants as taking
use Rattle.loom_objects.specs.declared.rt.thread.Task.{Task}
use Rattle.loom_objects.specs.declared.rt.thread.Task.TheVariants as task
use Rattle.loom_objects.specs.declared.rt.thread.Waking.{Waking as Wakes}
use Rattle.loom_objects.specs.declared.rt.thread.Waking.TheVariants as waking
use Rattle.loom_objects.specs.declared.rt.waker.Wakers.{Wakers}
use Rattle.loom_objects.specs.Lent.{value_in}
use Rattle.loom_objects.specs.Rules.Alloc.{track_begins}
use Rattle.loom_objects.specs.Rules.Arc.{arc_begins, comes_to, counts, decrements, drops_last, is_free, may_grow, sole_value, tries_unwrap, unwraps_if, with_arc, with_one_fewer}
use Rattle.loom_objects.specs.Rules.Condvar.{condvar_begins, falls_asleep, left_by, relocks, wait_begins as condvar_wait, wake_begins as condvar_wake, wakes, with_waiters, woken_by}
use Rattle.loom_objects.specs.Rules.Leaks.{is_none_left}
use Rattle.loom_objects.specs.Rules.Locals.{are_open, is_taken, is_working, lazy_at, lazy_begins, local_at, local_begins, local_or, makes_lazy, puts_local, reads_lazy, reads_local}
use Rattle.loom_objects.specs.Rules.Moves.{a_condvar, a_mutex, a_notify, a_rwlock, a_track, a_wakers, acquires, acquires_from_stamp, active_thread, an_arc, an_atomic_waker, at_phase, changes_active, is_number, pends, releases, releases_to_stamp, some_wakers, stamps, takes_result, unparks, wakes_if, with_points, with_stamp, yielded, yields, yields_more}
use Rattle.loom_objects.specs.Rules.Mpsc.{blocks_if, by_receiver, by_sender, channel_begins, delivers, drains, drains_from, drains_if, drains_on, first_of, fits_behind, receives, receives_from, sends, takes, tries_recv, with_channel}
use Rattle.loom_objects.specs.Rules.Mutex.{free_value, frees, lock, locks_unless, mutex_begins, try_lock}
use Rattle.loom_objects.specs.Rules.Notify.{awaits, comes_to_wait, enters_wait, has_waker, is_alone, is_for_waits, may_be_spurious, notifies, notify, notify_begins, wait_begins, waits_or_rouses, wakes_early, with_notify}
use Rattle.loom_objects.specs.Rules.Rule.{◌>>=◌, check, found}
use Rattle.loom_objects.specs.Rules.RwLock.{claims, guards_of, is_refused, is_unread, reads_lock, refusal, rwlock_begins, takes as takes_lock, takes_unless, unlocked_value, with_one_fewer as with_one_guard_fewer, with_rwlock, writes_lock}
use Rattle.loom_objects.specs.Rules.Thread.{child_finish, finish_as, has_own, if_other, is_exited, is_finished, join, parks_unless, thread_begins}
use Rattle.loom_objects.specs.Rules.Waker.{acquires_if, after_clone, after_drop, after_wake, atomic_waker_begins, clones_waker, drops_waker, frees_place, has_taken, holds_place, registers, registers_if, takes_place, takes_waker, waker_begins, waker_pends, wakes_by, with_wakers}
use Rattle.loom_objects.specs.Tree.Tree.{came}
use Rattle.loom_objects.specs.World.{World, MAX_THREADS}
use Rattle.loom_engine.specs.Covering.Points.{TellsMoves}
use Rattle.loom_engine.specs.Covering.States.{BothAlike}
use Rattle.loom_engine.proofs.Covering.Alike.{limit_left, limit_right}
use Rattle.loom_engine.proofs.Covering.Rules.{after, answer_then, points_then, Follows, Like, SeenSame, YieldsTell, joined_so, rouses_so, with_other}

module _ {D V : Type 0} (limits : FailureKind → Bool) (steps : limits TooManySteps ≡ true) (seen : Points → V) (see : List ℕ → List ℕ) (more : YieldsTell see) (tells : TellsMoves limits seen) where
  -- ---- mutexes and condition variables
  pub lock_so : (how : Locking) (n : ℕ) (w : World D) (q : Points) (k : ℕ) (y : List ℕ) → SeenSame limits seen see w q y → Follows limits seen see (lock how n w) (lock how n (with_other limits seen see q k y w))
  lock_so how n w q k y e = after limits seen see (a_mutex n w) _ _ (λ mutex. after limits seen see (found (free_value mutex) Misuse) _ _ (λ value. (refl, (_, _, _, (tells.acquire w.points q w.active n e.0, e.1), refl))))

  locks_unless_so : (is_held : Bool) (n : ℕ) (w : World D) (q : Points) (k : ℕ) (y : List ℕ) → SeenSame limits seen see w q y → Follows limits seen see (locks_unless is_held n w) (locks_unless is_held n (with_other limits seen see q k y w))
  locks_unless_so true n w q k y e = (refl, (_, _, _, e, refl))
  locks_unless_so false n w q k y e = lock_so locking.Untimed n w q k y e

  pub try_lock_so : (n : ℕ) (w : World D) (q : Points) (k : ℕ) (y : List ℕ) → SeenSame limits seen see w q y → Follows limits seen see (try_lock n w) (try_lock n (with_other limits seen see q k y w))
  try_lock_so n w q k y e = after limits seen see (a_mutex n w) _ _ (λ mutex. after limits seen see (check (is_none mutex.content.lent) Misuse) _ _ (λ passes. locks_unless_so (is_some mutex.holder) n w q k y e))

  frees_so : (n : ℕ) (value : D) (w : World D) (q : Points) (k : ℕ) (y : List ℕ) → SeenSame limits seen see w q y → Follows limits seen see (frees n value w) (frees n value (with_other limits seen see q k y w))
  frees_so n value w q k y e =
      after limits seen see (a_mutex n w) _ _ (λ mutex. after limits seen see (check (is_number mutex.holder w.active) Misuse) _ _ (λ passes. (refl, (_, _, _, (tells.release w.points q w.active n Release e.0, e.1), refl))))

  pub mutex_begins_so : (todo : MutexOp D) (w : World D) (q : Points) (k : ℕ) (y : List ℕ) → SeenSame limits seen see w q y → Follows limits seen see (mutex_begins todo w) (mutex_begins todo (with_other limits seen see q k y w))
  mutex_begins_so (mutex_op.New value) w q k y e = (refl, (_, _, _, (tells.point w.points q e.0, e.1), refl))
  mutex_begins_so (mutex_op.Lock n) w q k y e = after limits seen see (a_mutex n w) _ _ (λ mutex. (refl, (_, _, _, e, refl)))
  mutex_begins_so (mutex_op.TryLock n) w q k y e = after limits seen see (a_mutex n w) _ _ (λ mutex. (refl, (_, _, _, e, refl)))
  mutex_begins_so (mutex_op.Release n value) w q k y e = answer_then limits seen see (frees n value w) (frees n value (with_other limits seen see q k y w)) _ _ (frees_so n value w q k y e) (λ freed u p j z f. (refl, (_, _, _, f, refl)))
  mutex_begins_so (mutex_op.GetMut n) w q k y e = after limits seen see (a_mutex n w) _ _ (λ mutex. after limits seen see (found (free_value mutex) Misuse) _ _ (λ value. (refl, (_, _, _, e, refl))))
  mutex_begins_so (mutex_op.Put n value) w q k y e = after limits seen see (a_mutex n w) _ _ (λ mutex. after limits seen see (check (is_number mutex.content.lent w.active) Misuse) _ _ (λ passes. (refl, (_, _, _, e, refl))))
  mutex_begins_so (mutex_op.IntoInner n) w q k y e = after limits seen see (a_mutex n w) _ _ (λ mutex. after limits seen see (found (free_value mutex) Misuse) _ _ (λ value. (refl, (_, _, _, e, refl))))

  condvar_wait_so : (how : Locking) (n m : ℕ) (value : D) (w : World D) (q : Points) (k : ℕ) (y : List ℕ) → SeenSame limits seen see w q y → Follows limits seen see (condvar_wait how n m value w) (condvar_wait how n m value (with_other limits seen see q k y w))
  condvar_wait_so how n m value w q k y e =
      after limits seen see (a_condvar n w) _ _ (λ condvar. after limits seen see (a_mutex m w) _ _ (λ mutex. after limits seen see (check (is_number mutex.holder w.active) Misuse) _ _ (λ passes. (refl, (_, _, _, e, refl)))))

  condvar_wake_so : (which : Wakes) (n : ℕ) (w : World D) (q : Points) (k : ℕ) (y : List ℕ) → SeenSame limits seen see w q y → Follows limits seen see (condvar_wake which n w) (condvar_wake which n (with_other limits seen see q k y w))
  condvar_wake_so which n w q k y e = after limits seen see (a_condvar n w) _ _ (λ condvar. (refl, (_, _, _, e, refl)))

  pub condvar_begins_so : (todo : CondvarOp D) (w : World D) (q : Points) (k : ℕ) (y : List ℕ) → SeenSame limits seen see w q y → Follows limits seen see (condvar_begins todo w) (condvar_begins todo (with_other limits seen see q k y w))
  condvar_begins_so condvar_op.New w q k y e = (refl, (_, _, _, (tells.point w.points q e.0, e.1), refl))
  condvar_begins_so (condvar_op.Wait n m value) w q k y e = condvar_wait_so locking.Untimed n m value w q k y e
  condvar_begins_so (condvar_op.WaitTimeout n m value) w q k y e = condvar_wait_so locking.Timed n m value w q k y e
  condvar_begins_so (condvar_op.NotifyOne n) w q k y e = condvar_wake_so waking.One n w q k y e
  condvar_begins_so (condvar_op.NotifyAll n) w q k y e = condvar_wake_so waking.All n w q k y e

  pub falls_asleep_so : (how : Locking) (n m : ℕ) (value : D) (w : World D) (q : Points) (k : ℕ) (y : List ℕ) → SeenSame limits seen see w q y → Follows limits seen see (falls_asleep how n m value w) (falls_asleep how n m value (with_other limits seen see q k y w))
  falls_asleep_so how n m value w q k y e =
      after limits seen see (a_condvar n w) _ _ (λ condvar. after limits seen see (check (nat_lt (length condvar.waiters.items) MAX_THREADS) Misuse) _ _ (λ few.
      answer_then limits seen see (frees m value (with_waiters n (condvar.waiters.items ++ w.active ∷ []) w)) (frees m value (with_waiters n (condvar.waiters.items ++ w.active ∷ []) (with_other limits seen see q k y w))) _ _
      (frees_so m value (with_waiters n (condvar.waiters.items ++ w.active ∷ []) w) q k y e) (λ freed u p j z f. (refl, (_, _, _, f, refl)))))

  pub relocks_so : (how : Locking) (m : ℕ) (w : World D) (q : Points) (k : ℕ) (y : List ℕ) → SeenSame limits seen see w q y → Follows limits seen see (relocks how m w) (relocks how m (with_other limits seen see q k y w))
  relocks_so how m w q k y e = (refl, (_, _, _, e, refl))

  pub wakes_so : (which : Wakes) (n : ℕ) (w : World D) (q : Points) (k : ℕ) (y : List ℕ) → SeenSame limits seen see w q y → Follows limits seen see (wakes which n w) (wakes which n (with_other limits seen see q k y w))
  wakes_so which n w q k y e =
      after limits seen see (a_condvar n w) _ _ (λ condvar. (refl, rouses_so limits seen see tells (woken_by which condvar.waiters.items) (with_waiters n (left_by which condvar.waiters.items) w) q k y e))

  -- ---- read-write locks
  wakes_if_so : {A : Type 0} (a : A) (wakes : Bool) (n : ℕ) (w : World D) (q : Points) (k : ℕ) (y : List ℕ) → SeenSame limits seen see w q y → Follows limits seen see (Ok (a, wakes_if wakes n w)) (Ok (a, wakes_if wakes n (with_other limits seen see q k y w)))
  wakes_if_so a true n w q k y e = (refl, (_, _, _, e, refl))
  wakes_if_so a false n w q k y e = (refl, (_, _, _, e, refl))

  pub rwlock_begins_so : (todo : RwLockOp D) (w : World D) (q : Points) (k : ℕ) (y : List ℕ) → SeenSame limits seen see w q y → Follows limits seen see (rwlock_begins todo w) (rwlock_begins todo (with_other limits seen see q k y w))
  rwlock_begins_so (lock_op.New value) w q k y e = (refl, (_, _, _, (tells.point w.points q e.0, e.1), refl))
  rwlock_begins_so (lock_op.Read n) w q k y e = after limits seen see (a_rwlock n w) _ _ (λ lock. (refl, (_, _, _, e, refl)))
  rwlock_begins_so (lock_op.TryRead n) w q k y e = after limits seen see (a_rwlock n w) _ _ (λ lock. (refl, (_, _, _, e, refl)))
  rwlock_begins_so (lock_op.Write n) w q k y e = after limits seen see (a_rwlock n w) _ _ (λ lock. (refl, (_, _, _, e, refl)))
  rwlock_begins_so (lock_op.TryWrite n) w q k y e = after limits seen see (a_rwlock n w) _ _ (λ lock. (refl, (_, _, _, e, refl)))
  rwlock_begins_so (lock_op.ReadRelease n) w q k y e =
      after limits seen see (a_rwlock n w) _ _ (λ lock. after limits seen see (check (nat_lt 0 (guards_of w.active lock)) Misuse) _ _ (λ some.
      wakes_if_so _ (is_unread (with_one_guard_fewer w.active lock)) n (releases n (with_rwlock n (with_one_guard_fewer w.active lock) w)) (points_after_release q w.active n Release) k y (tells.release w.points q w.active n Release e.0, e.1)))
  rwlock_begins_so (lock_op.WriteRelease n value) w q k y e =
      after limits seen see (a_rwlock n w) _ _ (λ lock. after limits seen see (check (is_number lock.writer w.active) Misuse) _ _ (λ own. (refl, (_, _, _, (tells.release w.points q w.active n Release e.0, e.1), refl))))
  rwlock_begins_so (lock_op.GetMut n) w q k y e = after limits seen see (a_rwlock n w) _ _ (λ lock. after limits seen see (found (unlocked_value lock) Misuse) _ _ (λ value. (refl, (_, _, _, e, refl))))
  rwlock_begins_so (lock_op.Put n value) w q k y e = after limits seen see (a_rwlock n w) _ _ (λ lock. after limits seen see (check (is_number lock.content.lent w.active) Misuse) _ _ (λ own. (refl, (_, _, _, e, refl))))
  rwlock_begins_so (lock_op.IntoInner n) w q k y e = after limits seen see (a_rwlock n w) _ _ (λ lock. after limits seen see (found (unlocked_value lock) Misuse) _ _ (λ value. (refl, (_, _, _, e, refl))))

  reads_lock_so : (n : ℕ) (lock : RwLock D) (w : World D) (q : Points) (k : ℕ) (y : List ℕ) → SeenSame limits seen see w q y → Follows limits seen see (reads_lock n lock w) (reads_lock n lock (with_other limits seen see q k y w))
  reads_lock_so n lock w q k y e =
      after limits seen see (found (value_in lock.content) Misuse) _ _ (λ value. after limits seen see (check (nat_lt (guards_of w.active lock) highest_count) TooManySteps) _ _ (λ few. (refl, (_, _, _, (tells.acquire w.points q w.active n e.0, e.1), refl))))

  writes_lock_so : (n : ℕ) (lock : RwLock D) (w : World D) (q : Points) (k : ℕ) (y : List ℕ) → SeenSame limits seen see w q y → Follows limits seen see (writes_lock n lock w) (writes_lock n lock (with_other limits seen see q k y w))
  writes_lock_so n lock w q k y e = after limits seen see (found (value_in lock.content) Misuse) _ _ (λ value. (refl, (_, _, _, (tells.acquire w.points q w.active n e.0, e.1), refl)))

  takes_lock_so : (how : Claim) (n : ℕ) (lock : RwLock D) (w : World D) (q : Points) (k : ℕ) (y : List ℕ) → SeenSame limits seen see w q y → Follows limits seen see (takes_lock how n lock w) (takes_lock how n lock (with_other limits seen see q k y w))
  takes_lock_so claim.Read n lock w q k y e = reads_lock_so n lock w q k y e
  takes_lock_so claim.TryRead n lock w q k y e = reads_lock_so n lock w q k y e
  takes_lock_so claim.Write n lock w q k y e = writes_lock_so n lock w q k y e
  takes_lock_so claim.TryWrite n lock w q k y e = writes_lock_so n lock w q k y e

  takes_unless_so : (is_refused : Bool) (how : Claim) (n : ℕ) (lock : RwLock D) (w : World D) (q : Points) (k : ℕ) (y : List ℕ) → SeenSame limits seen see w q y → Follows limits seen see (takes_unless is_refused how n lock w) (takes_unless is_refused how n lock (with_other limits seen see q k y w))
  takes_unless_so true how n lock w q k y e = after limits seen see (refusal how) _ _ (λ answer. (refl, (_, _, _, e, refl)))
  takes_unless_so false how n lock w q k y e = takes_lock_so how n lock w q k y e

  pub claims_so : (how : Claim) (n : ℕ) (w : World D) (q : Points) (k : ℕ) (y : List ℕ) → SeenSame limits seen see w q y → Follows limits seen see (claims how n w) (claims how n (with_other limits seen see q k y w))
  claims_so how n w q k y e = after limits seen see (a_rwlock n w) _ _ (λ lock. after limits seen see (check (is_none lock.content.lent) Misuse) _ _ (λ passes. takes_unless_so (is_refused how lock) how n lock w q k y e))

  -- ---- notifiers
  notify_so : (n : ℕ) (w : World D) (q : Points) (k : ℕ) (y : List ℕ) → SeenSame limits seen see w q y → Follows limits seen see (notify n w) (notify n (with_other limits seen see q k y w))
  notify_so n w q k y e =
      after limits seen see (a_notify n w) _ _ (λ notifier. (refl, (_, _, _, (joined_so limits seen tells notifier.waiter w.active (points_after_release w.points w.active n Release) (points_after_release q w.active n Release) (tells.release w.points q w.active n Release e.0), e.1), refl)))

  comes_to_wait_so : (is_asked : Bool) (n : ℕ) (notifier : Notify) (w : World D) (q : Points) (k : ℕ) (y : List ℕ) → SeenSame limits seen see w q y → Follows limits seen see (comes_to_wait is_asked n notifier w) (comes_to_wait is_asked n notifier (with_other limits seen see q k y w))
  comes_to_wait_so true n notifier w q k y e = (refl, (_, _, _, e, refl))
  comes_to_wait_so false n notifier w q k y e = (refl, (_, _, _, e, refl))

  wait_begins_so : (n : ℕ) (w : World D) (q : Points) (k : ℕ) (y : List ℕ) → SeenSame limits seen see w q y → Follows limits seen see (wait_begins n w) (wait_begins n (with_other limits seen see q k y w))
  wait_begins_so n w q k y e =
      after limits seen see (a_notify n w) _ _ (λ notifier. after limits seen see (check (is_for_waits notifier.spurious) Misuse) _ _ (λ own. after limits seen see (check (is_alone w.active notifier) SecondWaiter) _ _ (λ alone. comes_to_wait_so (may_be_spurious notifier.spurious) n notifier w q k y e)))

  pub notify_begins_so : (todo : NotifyOp) (w : World D) (q : Points) (k : ℕ) (y : List ℕ) → SeenSame limits seen see w q y → Follows limits seen see (notify_begins todo w) (notify_begins todo (with_other limits seen see q k y w))
  notify_begins_so notify_op.New w q k y e = (refl, (_, _, _, (tells.point w.points q e.0, e.1), refl))
  notify_begins_so (notify_op.Notify n) w q k y e = after limits seen see (a_notify n w) _ _ (λ notifier. after limits seen see (check (is_for_waits notifier.spurious) Misuse) _ _ (λ own. (refl, (_, _, _, e, refl))))
  notify_begins_so (notify_op.Wait n) w q k y e = wait_begins_so n w q k y e

  yields_so : (todo : Task D) (w : World D) (q : Points) (k : ℕ) (y : List ℕ) → SeenSame limits seen see w q y → Follows limits seen see (yields todo w) (yields todo (with_other limits seen see q k y w))
  yields_so todo w q k y e = after limits seen see (active_thread w) _ _ (λ thread. by (nat_lt (slice_index w.yields w.active) highest_count) (nat_lt (slice_index y w.active) highest_count))
    where
      given : World D → Result (⊤ × World D) FailureKind
      given v = Ok (tt, with_points (points_after_yield v.points v.active) (yields_more (changes_active (yielded todo) v)))

      by : (a b : Bool) → Follows limits seen see (check a TooManySteps >>= (λ few. given w)) (check b TooManySteps >>= (λ few. given (with_other limits seen see q k y w)))
      by true true = (refl, (_, _, _, (tells.yield w.points q w.active e.0, more w.yields y w.active e.1), refl))
      by true false = limit_right limits (BothAlike (Like limits seen see)) (came (given w)) TooManySteps steps
      by false true = limit_left limits (BothAlike (Like limits seen see)) TooManySteps (came (given (with_other limits seen see q k y w))) steps
      by false false = inl refl

  waits_or_rouses_so : (is_spurious : Bool) (n : ℕ) (notifier : Notify) (w : World D) (q : Points) (k : ℕ) (y : List ℕ) → SeenSame limits seen see w q y → Follows limits seen see (waits_or_rouses is_spurious n notifier w) (waits_or_rouses is_spurious n notifier (with_other limits seen see q k y w))
  waits_or_rouses_so true n notifier w q k y e = yields_so (task.Rouse n) (with_notify n (record notifier { spurious = Waking w.active }) w) q k y e
  waits_or_rouses_so false n notifier w q k y e = (refl, (_, _, _, e, refl))

  pub enters_wait_so : (is_spurious : Bool) (n : ℕ) (w : World D) (q : Points) (k : ℕ) (y : List ℕ) → SeenSame limits seen see w q y → Follows limits seen see (enters_wait is_spurious n w) (enters_wait is_spurious n (with_other limits seen see q k y w))
  enters_wait_so is_spurious n w q k y e = after limits seen see (a_notify n w) _ _ (λ notifier. waits_or_rouses_so is_spurious n notifier w q k y e)

  pub notifies_so : (n : ℕ) (w : World D) (q : Points) (k : ℕ) (y : List ℕ) → SeenSame limits seen see w q y → Follows limits seen see (notifies n w) (notifies n (with_other limits seen see q k y w))
  notifies_so n w q k y e = answer_then limits seen see (notify n w) (notify n (with_other limits seen see q k y w)) _ _ (notify_so n w q k y e) (λ u v p j z f. (refl, (_, _, _, f, refl)))

  through : {A B : Type 0} (r : Result B FailureKind) (f g : ⊤ → Result (A × World D) FailureKind) → ((u : ⊤) → Follows limits seen see (f u) (g u)) → Follows limits seen see ((r >>= (λ b. Ok tt)) >>= f) ((r >>= (λ b. Ok tt)) >>= g)
  through (Ok b) f g h = h tt
  through (Err kind) f g h = inl refl

  has_then : {A : Type 0} (o : Option ℕ) (w : World D) (q : Points) (k : ℕ) (y : List ℕ) (f g : ⊤ → Result (A × World D) FailureKind) → ((u : ⊤) → Follows limits seen see (f u) (g u)) → Follows limits seen see (has_waker o w >>= f) (has_waker o (with_other limits seen see q k y w) >>= g)
  has_then None w q k y f g h = h tt
  has_then (Some c) w q k y f g h = through (some_wakers c w) f g h

  pub awaits_so : (n : ℕ) (w : World D) (q : Points) (k : ℕ) (y : List ℕ) → SeenSame limits seen see w q y → Follows limits seen see (awaits n w) (awaits n (with_other limits seen see q k y w))
  awaits_so n w q k y e =
      after limits seen see (a_notify n w) _ _ (λ notifier. has_then notifier.wakers w q k y _ _ (λ there. after limits seen see (check notifier.notified Misuse) _ _ (λ passes. (refl, (_, _, _, (tells.acquire w.points q w.active n e.0, e.1), refl)))))

  pub wakes_early_so : (n : ℕ) (w : World D) (q : Points) (k : ℕ) (y : List ℕ) → SeenSame limits seen see w q y → Follows limits seen see (wakes_early n w) (wakes_early n (with_other limits seen see q k y w))
  wakes_early_so n w q k y e = after limits seen see (a_notify n w) _ _ (λ notifier. has_then notifier.wakers w q k y _ _ (λ there. (refl, (_, _, _, e, refl))))

  -- ---- counted references, and tracked values
  comes_to_so : (todo : Task D) (n : ℕ) (w : World D) (q : Points) (k : ℕ) (y : List ℕ) → SeenSame limits seen see w q y → Follows limits seen see (comes_to todo n w) (comes_to todo n (with_other limits seen see q k y w))
  comes_to_so todo n w q k y e = after limits seen see (an_arc n w) _ _ (λ arc. after limits seen see (check (nat_lt 0 arc.count) Misuse) _ _ (λ some. (refl, (_, _, _, e, refl))))

  pub arc_begins_so : (todo : ArcOp D) (w : World D) (q : Points) (k : ℕ) (y : List ℕ) → SeenSame limits seen see w q y → Follows limits seen see (arc_begins todo w) (arc_begins todo (with_other limits seen see q k y w))
  arc_begins_so (arc_op.New value) w q k y e = (refl, (_, _, _, (tells.point w.points q e.0, e.1), refl))
  arc_begins_so (arc_op.Get n) w q k y e = after limits seen see (an_arc n w) _ _ (λ arc. after limits seen see (check (is_free arc) Misuse) _ _ (λ free. after limits seen see (found (value_in arc.content) Misuse) _ _ (λ value. (refl, (_, _, _, e, refl)))))
  arc_begins_so (arc_op.Put n value) w q k y e = after limits seen see (an_arc n w) _ _ (λ arc. after limits seen see (check (is_number arc.content.lent w.active) Misuse) _ _ (λ own. (refl, (_, _, _, e, refl))))
  arc_begins_so (arc_op.Clone n) w q k y e = comes_to_so _ n w q k y e
  arc_begins_so (arc_op.Drop n) w q k y e = comes_to_so _ n w q k y e
  arc_begins_so (arc_op.GetMut n) w q k y e = comes_to_so _ n w q k y e
  arc_begins_so (arc_op.StrongCount n) w q k y e = comes_to_so _ n w q k y e
  arc_begins_so (arc_op.TryUnwrap n) w q k y e = comes_to_so _ n w q k y e

  drops_last_so : (o : Option D) (n : ℕ) (w : World D) (q : Points) (k : ℕ) (y : List ℕ) → SeenSame limits seen see w q y → Follows limits seen see (drops_last o n w) (drops_last o n (with_other limits seen see q k y w))
  drops_last_so None n w q k y e = (refl, (_, _, _, e, refl))
  drops_last_so (Some value) n w q k y e = (refl, (_, _, _, (tells.acquire w.points q w.active n e.0, e.1), refl))

  decrements_so : (n : ℕ) (w : World D) (q : Points) (k : ℕ) (y : List ℕ) → SeenSame limits seen see w q y → Follows limits seen see (decrements n w) (decrements n (with_other limits seen see q k y w))
  decrements_so n w q k y e =
      after limits seen see (an_arc n w) _ _ (λ arc. after limits seen see (sole_value arc) _ _ (λ value.
      drops_last_so value n (releases n (with_arc n (with_one_fewer arc) w)) (points_after_release q w.active n Release) k y (tells.release w.points q w.active n Release e.0, e.1)))

  pub counts_so : (todo : Counting) (n : ℕ) (w : World D) (q : Points) (k : ℕ) (y : List ℕ) → SeenSame limits seen see w q y → Follows limits seen see (counts todo n w) (counts todo n (with_other limits seen see q k y w))
  counts_so counting.Clone n w q k y e = after limits seen see (an_arc n w) _ _ (λ arc. after limits seen see (may_grow arc) _ _ (λ few. (refl, (_, _, _, e, refl))))
  counts_so counting.Drop n w q k y e = decrements_so n w q k y e
  counts_so counting.GetMut n w q k y e = after limits seen see (an_arc n w) _ _ (λ arc. after limits seen see (sole_value arc) _ _ (λ value. (refl, (_, _, _, (tells.acquire w.points q w.active n e.0, e.1), refl))))
  counts_so counting.Unwrap n w q k y e = after limits seen see (an_arc n w) _ _ (λ arc. after limits seen see (check (arc.count == 1) Misuse) _ _ (λ sole. decrements_so n w q k y e))
  counts_so counting.StrongCount n w q k y e = after limits seen see (an_arc n w) _ _ (λ arc. after limits seen see (check (is_free arc) Misuse) _ _ (λ free. (refl, (_, _, _, (tells.acquire w.points q w.active n e.0, e.1), refl))))

  unwraps_if_so : (is_sole : Bool) (n : ℕ) (w : World D) (q : Points) (k : ℕ) (y : List ℕ) → SeenSame limits seen see w q y → Follows limits seen see (unwraps_if is_sole n w) (unwraps_if is_sole n (with_other limits seen see q k y w))
  unwraps_if_so true n w q k y e = (refl, (_, _, _, e, refl))
  unwraps_if_so false n w q k y e = (refl, (_, _, _, e, refl))

  pub tries_unwrap_so : (n : ℕ) (w : World D) (q : Points) (k : ℕ) (y : List ℕ) → SeenSame limits seen see w q y → Follows limits seen see (tries_unwrap n w) (tries_unwrap n (with_other limits seen see q k y w))
  tries_unwrap_so n w q k y e =
      after limits seen see (an_arc n w) _ _ (λ arc. after limits seen see (check (is_free arc) Misuse) _ _ (λ free. unwraps_if_so (arc.count == 1) n (acquires n w) (points_after_acquire q w.active n) k y (tells.acquire w.points q w.active n e.0, e.1)))

  pub track_begins_so : (todo : TrackOp D) (w : World D) (q : Points) (k : ℕ) (y : List ℕ) → SeenSame limits seen see w q y → Follows limits seen see (track_begins todo w) (track_begins todo (with_other limits seen see q k y w))
  track_begins_so (track_op.New value) w q k y e = (refl, (_, _, _, (tells.point w.points q e.0, e.1), refl))
  track_begins_so (track_op.GetRef n) w q k y e = after limits seen see (a_track n w) _ _ (λ track. after limits seen see (found (value_in track.content) Misuse) _ _ (λ value. (refl, (_, _, _, e, refl))))
  track_begins_so (track_op.GetMut n) w q k y e = after limits seen see (a_track n w) _ _ (λ track. after limits seen see (found (value_in track.content) Misuse) _ _ (λ value. (refl, (_, _, _, e, refl))))
  track_begins_so (track_op.Put n value) w q k y e = after limits seen see (a_track n w) _ _ (λ track. after limits seen see (check (is_number track.content.lent w.active) Misuse) _ _ (λ own. (refl, (_, _, _, e, refl))))
  track_begins_so (track_op.IntoInner n) w q k y e = after limits seen see (a_track n w) _ _ (λ track. after limits seen see (found (value_in track.content) Misuse) _ _ (λ value. (refl, (_, _, _, e, refl))))
  track_begins_so (track_op.Drop n) w q k y e = after limits seen see (a_track n w) _ _ (λ track. after limits seen see (found (value_in track.content) Misuse) _ _ (λ value. (refl, (_, _, _, e, refl))))

  -- ---- channels
  sends_at : (n : ℕ) (value : D) (m s : ℕ) (w : World D) (q : Points) (k : ℕ) (y : List ℕ) → m ≡ s → SeenSame limits seen see w q y
      → Follows limits seen see {A = Entry D} (Ok (AtBranch, pends (task.Send n (record { value = value ∷ []; stamp = m } ∷ [])) false (with_stamp w))) (Ok (AtBranch, pends (task.Send n (record { value = value ∷ []; stamp = s } ∷ [])) false (with_stamp (with_other limits seen see q k y w))))
  sends_at n value m s w q k y i e =
      subst (λ x. Follows limits seen see {A = Entry D} (Ok (AtBranch, pends (task.Send n (record { value = value ∷ []; stamp = m } ∷ [])) false (with_stamp w))) (Ok (AtBranch, pends (task.Send n (record { value = value ∷ []; stamp = x } ∷ [])) false (with_stamp (with_other limits seen see q k y w))))) i
      (refl, (_, _, _, (tells.stamp w.points q e.0, e.1), refl))

  tries_recv_so : (is_empty : Bool) (n : ℕ) (w : World D) (q : Points) (k : ℕ) (y : List ℕ) → SeenSame limits seen see w q y → Follows limits seen see (tries_recv is_empty n w) (tries_recv is_empty n (with_other limits seen see q k y w))
  tries_recv_so true n w q k y e = (refl, (_, _, _, e, refl))
  tries_recv_so false n w q k y e = (refl, (_, _, _, e, refl))

  drains_if_so : (is_some_left : Bool) (channel : Channel D) (n : ℕ) (w : World D) (q : Points) (k : ℕ) (y : List ℕ) → SeenSame limits seen see w q y → Follows limits seen see (drains_if is_some_left channel n w) (drains_if is_some_left channel n (with_other limits seen see q k y w))
  drains_if_so true channel n w q k y e = (refl, (_, _, _, e, refl))
  drains_if_so false channel n w q k y e = (refl, (_, _, _, e, refl))

  pub channel_begins_so : (todo : ChannelOp D) (w : World D) (q : Points) (k : ℕ) (y : List ℕ) → SeenSame limits seen see w q y → Follows limits seen see (channel_begins todo w) (channel_begins todo (with_other limits seen see q k y w))
  channel_begins_so channel_op.New w q k y e = (refl, (_, _, _, (tells.point w.points q e.0, e.1), refl))
  channel_begins_so (channel_op.Send n value) w q k y e = after limits seen see (by_sender n w) _ _ (λ channel. sends_at n value (length w.points.stamps) (length q.stamps) w q k y (tells.stamps w.points q e.0) e)
  channel_begins_so (channel_op.Recv n) w q k y e = after limits seen see (by_receiver n w) _ _ (λ channel. (refl, (_, _, _, e, refl)))
  channel_begins_so (channel_op.TryRecv n) w q k y e = after limits seen see (by_receiver n w) _ _ (λ channel. tries_recv_so (is_none_left channel.messages) n w q k y e)
  channel_begins_so (channel_op.CloneSender n) w q k y e = after limits seen see (by_sender n w) _ _ (λ channel. after limits seen see (check (nat_lt channel.senders highest_count) TooManySteps) _ _ (λ few. (refl, (_, _, _, e, refl))))
  channel_begins_so (channel_op.DropSender n) w q k y e =
      after limits seen see (by_sender n w) _ _ (λ channel. wakes_if_so _ (channel.senders == 1) n (with_channel n (record channel { senders = channel.senders - 1 }) w) q k y e)
  channel_begins_so (channel_op.DropReceiver n) w q k y e = after limits seen see (by_receiver n w) _ _ (λ channel. drains_if_so (nat_lt 0 (length channel.messages)) channel n w q k y e)

  delivers_so : (has_receiver : Bool) (channel : Channel D) (n : ℕ) (sent : List (Message D)) (message : Message D) (w : World D) (q : Points) (k : ℕ) (y : List ℕ) → SeenSame limits seen see w q y → Follows limits seen see (delivers has_receiver channel n sent message w) (delivers has_receiver channel n sent message (with_other limits seen see q k y w))
  delivers_so false channel n sent message w q k y e = after limits seen see (found (first_of message.value) Misuse) _ _ (λ value. (refl, (_, _, _, e, refl)))
  delivers_so true channel n sent message w q k y e =
      after limits seen see (check (fits_behind channel.messages sent) TooManySteps) _ _ (λ few.
      wakes_if_so _ (is_none_left channel.messages) n (stamps n message.stamp (releases n (with_channel n (record channel { messages = channel.messages ++ sent }) w)))
      (points_after_stamp (points_after_release q w.active n Release) n message.stamp) k y
      (tells.stamped (points_after_release w.points w.active n Release) (points_after_release q w.active n Release) n message.stamp (tells.release w.points q w.active n Release e.0), e.1))

  pub sends_so : (n : ℕ) (sent : List (Message D)) (w : World D) (q : Points) (k : ℕ) (y : List ℕ) → SeenSame limits seen see w q y → Follows limits seen see (sends n sent w) (sends n sent (with_other limits seen see q k y w))
  sends_so n sent w q k y e = after limits seen see (by_sender n w) _ _ (λ channel. after limits seen see (found (first_of sent) Misuse) _ _ (λ message. delivers_so channel.has_receiver channel n sent message w q k y e))

  blocks_like : (blocks : Bool) (n : ℕ) (w : World D) (q : Points) (k : ℕ) (y : List ℕ) → SeenSame limits seen see w q y → Like limits seen see (blocks_if blocks n w) (blocks_if blocks n (with_other limits seen see q k y w))
  blocks_like true n w q k y e = (_, _, _, e, refl)
  blocks_like false n w q k y e = (_, _, _, e, refl)

  takes_like : (n : ℕ) (channel : Channel D) (message : Message D) (rest : List (Message D)) (w : World D) (q : Points) (k : ℕ) (y : List ℕ) → SeenSame limits seen see w q y
      → Like limits seen see (takes n channel message rest w) (takes n channel message rest (with_other limits seen see q k y w))
  takes_like n channel message rest w q k y e =
      blocks_like (is_none_left rest && nat_lt 0 channel.senders) n (acquires_from_stamp message.stamp (with_channel n (record channel { messages = rest }) w)) (points_after_stamp_acquire q w.active message.stamp) k y
      (tells.stamp_acquire w.points q w.active message.stamp e.0, e.1)

  receives_from_so : (by : Receiving) (n : ℕ) (channel : Channel D) (messages : List (Message D)) (w : World D) (q : Points) (k : ℕ) (y : List ℕ) → SeenSame limits seen see w q y → Follows limits seen see (receives_from by n channel messages w) (receives_from by n channel messages (with_other limits seen see q k y w))
  receives_from_so by n channel [] w q k y e = (refl, (_, _, _, e, refl))
  receives_from_so by n channel (message ∷ rest) w q k y e = after limits seen see (found (first_of message.value) Misuse) _ _ (λ value. (refl, takes_like n channel message rest w q k y e))

  pub receives_so : (by : Receiving) (n : ℕ) (w : World D) (q : Points) (k : ℕ) (y : List ℕ) → SeenSame limits seen see w q y → Follows limits seen see (receives by n w) (receives by n (with_other limits seen see q k y w))
  receives_so by n w q k y e = after limits seen see (by_receiver n w) _ _ (λ channel. receives_from_so by n channel channel.messages w q k y e)

  drains_on_so : (is_last : Bool) (n : ℕ) (taken : List D) (w : World D) (q : Points) (k : ℕ) (y : List ℕ) → SeenSame limits seen see w q y → Follows limits seen see (drains_on is_last n taken w) (drains_on is_last n taken (with_other limits seen see q k y w))
  drains_on_so true n taken w q k y e = after limits seen see (by_receiver n w) _ _ (λ channel. (refl, (_, _, _, e, refl)))
  drains_on_so false n taken w q k y e = (refl, (_, _, _, e, refl))

  drains_on_like : (is_last : Bool) (n : ℕ) (taken : List D) (w v : World D) → Like limits seen see w v → Follows limits seen see (drains_on is_last n taken w) (drains_on is_last n taken v)
  drains_on_like is_last n taken w v (q, k, y, e, i) = subst (λ x. Follows limits seen see (drains_on is_last n taken w) (drains_on is_last n taken x)) (sym i) (drains_on_so is_last n taken w q k y e)

  drains_from_so : (n : ℕ) (taken : List D) (channel : Channel D) (messages : List (Message D)) (w : World D) (q : Points) (k : ℕ) (y : List ℕ) → SeenSame limits seen see w q y → Follows limits seen see (drains_from n taken channel messages w) (drains_from n taken channel messages (with_other limits seen see q k y w))
  drains_from_so n taken channel [] w q k y e = drains_on_so true n taken w q k y e
  drains_from_so n taken channel (message ∷ rest) w q k y e =
      after limits seen see (check (fits_behind taken message.value) TooManySteps) _ _ (λ few. drains_on_like (is_none_left rest) n (taken ++ message.value) (takes n channel message rest w) (takes n channel message rest (with_other limits seen see q k y w)) (takes_like n channel message rest w q k y e))

  pub drains_so : (n : ℕ) (taken : List D) (w : World D) (q : Points) (k : ℕ) (y : List ℕ) → SeenSame limits seen see w q y → Follows limits seen see (drains n taken w) (drains n taken (with_other limits seen see q k y w))
  drains_so n taken w q k y e = after limits seen see (by_receiver n w) _ _ (λ channel. drains_from_so n taken channel channel.messages w q k y e)

  -- ---- threads
  takes_result_so : (t : ℕ) (w : World D) (q : Points) (k : ℕ) (y : List ℕ) → SeenSame limits seen see w q y → Follows limits seen see (takes_result t w) (takes_result t (with_other limits seen see q k y w))
  takes_result_so t w q k y e = after limits seen see (found (slice_get w.threads t) Misuse) _ _ (λ thread. after limits seen see (found thread.result Misuse) _ _ (λ value. (refl, (_, _, _, e, refl))))

  unparks_so : (t : ℕ) (w : World D) (q : Points) (k : ℕ) (y : List ℕ) → SeenSame limits seen see w q y → Follows limits seen see (unparks t w) (unparks t (with_other limits seen see q k y w))
  unparks_so t w q k y e = after limits seen see (found (slice_get w.threads t) Misuse) _ _ (λ thread. (refl, (_, _, _, e, refl)))

  parks_unless_so : (has_token : Bool) (w : World D) (q : Points) (k : ℕ) (y : List ℕ) → SeenSame limits seen see w q y → Follows limits seen see (parks_unless has_token w) (parks_unless has_token (with_other limits seen see q k y w))
  parks_unless_so true w q k y e = (refl, (_, _, _, e, refl))
  parks_unless_so false w q k y e = (refl, (_, _, _, e, refl))

  finish_as_so : (o : Option ℕ) (value : D) (w : World D) (q : Points) (k : ℕ) (y : List ℕ) → SeenSame limits seen see w q y → Follows limits seen see (finish_as o value w) (finish_as o value (with_other limits seen see q k y w))
  finish_as_so None value w q k y e = (refl, (_, _, _, e, refl))
  finish_as_so (Some n) value w q k y e = (refl, (_, _, _, e, refl))

  pub thread_begins_so : (todo : ThreadOp D ⊤) (w : World D) (q : Points) (k : ℕ) (y : List ℕ) → SeenSame limits seen see w q y → Follows limits seen see (thread_begins todo w) (thread_begins todo (with_other limits seen see q k y w))
  thread_begins_so (thread_op.Spawn body name) w q k y e =
      after limits seen see (check (nat_lt (length w.threads) w.max_threads) TooManyThreads) _ _ (λ few.
      points_then limits seen see (points_after_spawn w.points w.active) (points_after_spawn q w.active) _ _ (tells.spawn w.points q w.active e.0) (λ p r i. (refl, (_, _, _, (tells.point p r i, e.1), refl))))
  thread_begins_so (thread_op.Join t n) w q k y e =
      after limits seen see (check (has_own (slice_get w.threads t) n) Misuse) _ _ (λ own. after limits seen see (a_notify n w) _ _ (λ notifier. after limits seen see (check (is_none notifier.waiter) Misuse) _ _ (λ first. (refl, (_, _, _, e, refl)))))
  thread_begins_so thread_op.Current w q k y e = after limits seen see (active_thread w) _ _ (λ thread. (refl, (_, _, _, e, refl)))
  thread_begins_so thread_op.Park w q k y e = after limits seen see (active_thread w) _ _ (λ thread. parks_unless_so thread.has_token w q k y e)
  thread_begins_so (thread_op.Unpark t) w q k y e =
      answer_then limits seen see (unparks t w) (unparks t (with_other limits seen see q k y w)) _ _ (unparks_so t w q k y e) (λ given u p j z f. (refl, (_, _, _, (joined_so limits seen tells (if_other w.active t) u.active u.points p f.0, f.1), refl)))
  thread_begins_so thread_op.Yield w q k y e = answer_then limits seen see (yields task.Continue w) (yields task.Continue (with_other limits seen see q k y w)) _ _ (yields_so task.Continue w q k y e) (λ yielded u p j z f. (refl, (_, _, _, f, refl)))
  thread_begins_so (thread_op.Finish value) w q k y e =
      after limits seen see (active_thread w) _ _ (λ thread. after limits seen see (check (is_working thread.phase) Misuse) _ _ (λ working. finish_as_so thread.notifier value (changes_active (at_phase Finished) w) q k y e))
  thread_begins_so thread_op.Exit w q k y e = after limits seen see (active_thread w) _ _ (λ thread. after limits seen see (check (is_finished thread.phase) Misuse) _ _ (λ finished. (refl, (_, _, _, e, refl))))
  thread_begins_so thread_op.End w q k y e = after limits seen see (active_thread w) _ _ (λ thread. after limits seen see (check (is_exited thread.phase) Misuse) _ _ (λ exited. (refl, (_, _, _, e, refl))))

  pub join_so : (t n : ℕ) (w : World D) (q : Points) (k : ℕ) (y : List ℕ) → SeenSame limits seen see w q y → Follows limits seen see (join t n w) (join t n (with_other limits seen see q k y w))
  join_so t n w q k y e =
      after limits seen see (a_notify n w) _ _ (λ notifier. after limits seen see (check notifier.notified Misuse) _ _ (λ passes.
      answer_then limits seen see (takes_result t w) (takes_result t (with_other limits seen see q k y w)) _ _ (takes_result_so t w q k y e) (λ value u p j z f. (refl, (_, _, _, (tells.acquire u.points p u.active n f.0, f.1), refl)))))

  pub child_finish_so : (n : ℕ) (value : D) (w : World D) (q : Points) (k : ℕ) (y : List ℕ) → SeenSame limits seen see w q y → Follows limits seen see (child_finish n value w) (child_finish n value (with_other limits seen see q k y w))
  child_finish_so n value w q k y e = answer_then limits seen see (notify n w) (notify n (with_other limits seen see q k y w)) _ _ (notify_so n w q k y e) (λ notified u p j z f. (refl, (_, _, _, f, refl)))

  -- ---- values of threads, and values that are made once
  reads_local_so : (r s : Result (Entry D × World D) FailureKind) → Follows limits seen see r s → (was_there : Bool) (o : Option (Keyed D)) (w : World D) (q : Points) (k : ℕ) (y : List ℕ) → SeenSame limits seen see w q y
      → Follows limits seen see (reads_local r was_there o w) (reads_local s was_there o (with_other limits seen see q k y w))
  reads_local_so r s h true None w q k y e = h
  reads_local_so r s h false None w q k y e = (refl, (_, _, _, e, refl))
  reads_local_so r s h was_there (Some local) w q k y e = (refl, (_, _, _, e, refl))

  local_or_so : (r s : Result (Entry D × World D) FailureKind) → Follows limits seen see r s → (key : ℕ) (w : World D) (q : Points) (k : ℕ) (y : List ℕ) → SeenSame limits seen see w q y → Follows limits seen see (local_or r key w) (local_or s key (with_other limits seen see q k y w))
  local_or_so r s h key w q k y e = after limits seen see (active_thread w) _ _ (λ thread. reads_local_so r s h (is_taken key thread) (local_at key thread) w q k y e)

  puts_local_so : (key : ℕ) (value : D) (o : Option (Keyed D)) (w : World D) (q : Points) (k : ℕ) (y : List ℕ) → SeenSame limits seen see w q y → Follows limits seen see (puts_local key value o w) (puts_local key value o (with_other limits seen see q k y w))
  puts_local_so key value None w q k y e = inl refl
  puts_local_so key value (Some local) w q k y e = (refl, (_, _, _, e, refl))

  pub local_begins_so : (todo : LocalOp D) (w : World D) (q : Points) (k : ℕ) (y : List ℕ) → SeenSame limits seen see w q y → Follows limits seen see (local_begins todo w) (local_begins todo (with_other limits seen see q k y w))
  local_begins_so (local_op.With key) w q k y e = local_or_so (Err LocalGone) (Err LocalGone) (inl refl) key w q k y e
  local_begins_so (local_op.TryWith key) w q k y e = local_or_so (Ok (Answered reply.AccessError, w)) (Ok (Answered reply.AccessError, with_other limits seen see q k y w)) (refl, (_, _, _, e, refl)) key w q k y e
  local_begins_so (local_op.Init key value) w q k y e = after limits seen see (active_thread w) _ _ (λ thread. after limits seen see (check (not (is_taken key thread)) KeyTaken) _ _ (λ free. (refl, (_, _, _, e, refl))))
  local_begins_so (local_op.Put key value) w q k y e = after limits seen see (active_thread w) _ _ (λ thread. puts_local_so key value (local_at key thread) w q k y e)

  reads_lazy_so : (o : Option (Lazy D)) (w : World D) (q : Points) (k : ℕ) (y : List ℕ) → SeenSame limits seen see w q y → Follows limits seen see (reads_lazy o w) (reads_lazy o (with_other limits seen see q k y w))
  reads_lazy_so None w q k y e = (refl, (_, _, _, e, refl))
  reads_lazy_so (Some lazy) w q k y e = (refl, (_, _, _, (tells.stamp_acquire w.points q w.active lazy.stamp e.0, e.1), refl))

  -- the state in which a value of this key, made at this stamp, is kept
  abbrev made_at : ℕ → D → ℕ → World D → World D
  made_at key value m w = releases_to_stamp m (with_stamp (record w { lazies = w.lazies ++ record { key = key; value = value; stamp = m } ∷ [] }))

  makes_at : (key : ℕ) (value : D) (m s : ℕ) (w : World D) (q : Points) (k : ℕ) (y : List ℕ) → m ≡ s → SeenSame limits seen see w q y → Follows limits seen see (Ok (Answered (reply.Data value), made_at key value m w)) (Ok (Answered (reply.Data value), made_at key value s (with_other limits seen see q k y w)))
  makes_at key value m s w q k y i e =
      subst (λ x. Follows limits seen see (Ok (Answered (reply.Data value), made_at key value m w)) (Ok (Answered (reply.Data value), made_at key value x (with_other limits seen see q k y w)))) i
      (refl, (_, _, _, (tells.stamp_release (points_with_stamp w.points) (points_with_stamp q) w.active m AcqRel (tells.stamp w.points q e.0), e.1), refl))

  makes_lazy_so : (key : ℕ) (value : D) (o : Option (Lazy D)) (w : World D) (q : Points) (k : ℕ) (y : List ℕ) → SeenSame limits seen see w q y → Follows limits seen see (makes_lazy key value o w) (makes_lazy key value o (with_other limits seen see q k y w))
  makes_lazy_so key value None w q k y e = makes_at key value (length w.points.stamps) (length q.stamps) w q k y (tells.stamps w.points q e.0) e
  makes_lazy_so key value (Some lazy) w q k y e = (refl, (_, _, _, (tells.stamp_acquire w.points q w.active lazy.stamp e.0, e.1), refl))

  pub lazy_begins_so : (todo : LazyOp D) (w : World D) (q : Points) (k : ℕ) (y : List ℕ) → SeenSame limits seen see w q y → Follows limits seen see (lazy_begins todo w) (lazy_begins todo (with_other limits seen see q k y w))
  lazy_begins_so (lazy_op.Get key) w q k y e = after limits seen see (check (are_open w) LazyShutdown) _ _ (λ opened. reads_lazy_so (lazy_at key w) w q k y e)
  lazy_begins_so (lazy_op.Init key value) w q k y e = after limits seen see (check (are_open w) LazyShutdown) _ _ (λ opened. makes_lazy_so key value (lazy_at key w) w q k y e)

  -- ---- wakers
  waker_pends_so : (todo : Task D) (c : ℕ) (w : World D) (q : Points) (k : ℕ) (y : List ℕ) → SeenSame limits seen see w q y → Follows limits seen see (waker_pends todo c w) (waker_pends todo c (with_other limits seen see q k y w))
  waker_pends_so todo c w q k y e = after limits seen see (some_wakers c w) _ _ (λ wakers. (refl, (_, _, _, e, refl)))

  pub waker_begins_so : (todo : WakerOp) (w : World D) (q : Points) (k : ℕ) (y : List ℕ) → SeenSame limits seen see w q y → Follows limits seen see (waker_begins todo w) (waker_begins todo (with_other limits seen see q k y w))
  waker_begins_so waker_op.New w q k y e = (refl, (_, _, _, (tells.point (points_with_point w.points) (points_with_point q) (tells.point w.points q e.0), e.1), refl))
  waker_begins_so (waker_op.Wait c) w q k y e = after limits seen see (some_wakers c w) _ _ (λ wakers. wait_begins_so wakers.notifier w q k y e)
  waker_begins_so (waker_op.Finish c) w q k y e = waker_pends_so _ c w q k y e
  waker_begins_so (waker_op.Clone c) w q k y e = waker_pends_so _ c w q k y e
  waker_begins_so (waker_op.Wake c) w q k y e = after limits seen see (some_wakers c w) _ _ (λ wakers. (refl, (_, _, _, e, refl)))
  waker_begins_so (waker_op.WakeByRef c) w q k y e = after limits seen see (some_wakers c w) _ _ (λ wakers. (refl, (_, _, _, e, refl)))
  waker_begins_so (waker_op.Drop c) w q k y e = waker_pends_so _ c w q k y e

  pub atomic_waker_begins_so : (todo : AtomicWakerOp) (w : World D) (q : Points) (k : ℕ) (y : List ℕ) → SeenSame limits seen see w q y → Follows limits seen see (atomic_waker_begins todo w) (atomic_waker_begins todo (with_other limits seen see q k y w))
  atomic_waker_begins_so place_op.New w q k y e = (refl, (_, _, _, (tells.point w.points q e.0, e.1), refl))
  atomic_waker_begins_so (place_op.Register p c) w q k y e = after limits seen see (an_atomic_waker p w) _ _ (λ place. waker_pends_so _ c w q k y e)
  atomic_waker_begins_so (place_op.RegisterByRef p c) w q k y e = after limits seen see (an_atomic_waker p w) _ _ (λ place. waker_pends_so _ c w q k y e)
  atomic_waker_begins_so (place_op.Wake p) w q k y e = after limits seen see (an_atomic_waker p w) _ _ (λ place. (refl, (_, _, _, e, refl)))
  atomic_waker_begins_so (place_op.TakeWaker p) w q k y e = after limits seen see (an_atomic_waker p w) _ _ (λ place. (refl, (_, _, _, e, refl)))
  atomic_waker_begins_so (place_op.Drop p) w q k y e = after limits seen see (an_atomic_waker p w) _ _ (λ place. (refl, (_, _, _, e, refl)))

  after_wake_so : (then_what : AfterWake) (c : ℕ) (w : World D) (q : Points) (k : ℕ) (y : List ℕ) → SeenSame limits seen see w q y → Follows limits seen see (after_wake then_what c w) (after_wake then_what c (with_other limits seen see q k y w))
  after_wake_so woken.Done c w q k y e = (refl, (_, _, _, e, refl))
  after_wake_so (woken.Drop later) c w q k y e = (refl, (_, _, _, e, refl))

  pub wakes_by_so : (n c : ℕ) (then_what : AfterWake) (w : World D) (q : Points) (k : ℕ) (y : List ℕ) → SeenSame limits seen see w q y → Follows limits seen see (wakes_by n c then_what w) (wakes_by n c then_what (with_other limits seen see q k y w))
  wakes_by_so n c then_what w q k y e =
      after limits seen see (some_wakers c w) _ _ (λ wakers. answer_then limits seen see (notify n w) (notify n (with_other limits seen see q k y w)) _ _ (notify_so n w q k y e) (λ notified u p j z f. after_wake_so then_what c u p j z f))

  after_clone_so : (o : Option ℕ) (c : ℕ) (w : World D) (q : Points) (k : ℕ) (y : List ℕ) → SeenSame limits seen see w q y → Follows limits seen see (after_clone o c w) (after_clone o c (with_other limits seen see q k y w))
  after_clone_so None c w q k y e = (refl, (_, _, _, e, refl))
  after_clone_so (Some p) c w q k y e = (refl, (_, _, _, e, refl))

  pub clones_waker_so : (c : ℕ) (o : Option ℕ) (w : World D) (q : Points) (k : ℕ) (y : List ℕ) → SeenSame limits seen see w q y → Follows limits seen see (clones_waker c o w) (clones_waker c o (with_other limits seen see q k y w))
  clones_waker_so c o w q k y e =
      after limits seen see (some_wakers c w) _ _ (λ wakers. after limits seen see (check (nat_lt wakers.count highest_count) TooManySteps) _ _ (λ few. after_clone_so o c (with_wakers c (record wakers { count = wakers.count + 1 }) w) q k y e))

  after_drop_so : (then_what : AfterDrop) (w : World D) (q : Points) (k : ℕ) (y : List ℕ) → SeenSame limits seen see w q y → Follows limits seen see (after_drop then_what w) (after_drop then_what (with_other limits seen see q k y w))
  after_drop_so dropped.Done w q k y e = (refl, (_, _, _, e, refl))
  after_drop_so dropped.Yield w q k y e = answer_then limits seen see (yields task.Continue w) (yields task.Continue (with_other limits seen see q k y w)) _ _ (yields_so task.Continue w q k y e) (λ yielded u p j z f. (refl, (_, _, _, f, refl)))
  after_drop_so (dropped.Free p) w q k y e = after limits seen see (an_atomic_waker p w) _ _ (λ place. (refl, (_, _, _, (tells.release w.points q w.active p Release e.0, e.1), refl)))

  drops_so : (then_what : AfterDrop) (is_last : Bool) (c : ℕ) (w : World D) (q : Points) (k : ℕ) (y : List ℕ) → SeenSame limits seen see w q y → Follows limits seen see (after_drop then_what (acquires_if is_last c w)) (after_drop then_what (acquires_if is_last c (with_other limits seen see q k y w)))
  drops_so then_what true c w q k y e = after_drop_so then_what (acquires c w) (points_after_acquire q w.active c) k y (tells.acquire w.points q w.active c e.0, e.1)
  drops_so then_what false c w q k y e = after_drop_so then_what w q k y e

  pub drops_waker_so : (c : ℕ) (then_what : AfterDrop) (w : World D) (q : Points) (k : ℕ) (y : List ℕ) → SeenSame limits seen see w q y → Follows limits seen see (drops_waker c then_what w) (drops_waker c then_what (with_other limits seen see q k y w))
  drops_waker_so c then_what w q k y e =
      after limits seen see (some_wakers c w) _ _ (λ wakers. drops_so then_what (wakers.count == 1) c (releases c (with_wakers c (record wakers { count = wakers.count - 1 }) w)) (points_after_release q w.active c Release) k y (tells.release w.points q w.active c Release e.0, e.1))

  takes_place_so : (p c : ℕ) (place : AtomicWaker) (o : Option ℕ) (w : World D) (q : Points) (k : ℕ) (y : List ℕ) → SeenSame limits seen see w q y → Follows limits seen see (takes_place p c place o w) (takes_place p c place o (with_other limits seen see q k y w))
  takes_place_so p c place None w q k y e =
      (refl, (_, _, _, (tells.release (points_after_acquire w.points w.active p) (points_after_acquire q w.active p) w.active p Release (tells.acquire w.points q w.active p e.0), e.1), refl))
  takes_place_so p c place (Some old) w q k y e = (refl, (_, _, _, (tells.acquire w.points q w.active p e.0, e.1), refl))

  registers_if_so : (is_free : Bool) (p c : ℕ) (place : AtomicWaker) (wakers : Wakers) (w : World D) (q : Points) (k : ℕ) (y : List ℕ) → SeenSame limits seen see w q y → Follows limits seen see (registers_if is_free p c place wakers w) (registers_if is_free p c place wakers (with_other limits seen see q k y w))
  registers_if_so true p c place wakers w q k y e = takes_place_so p c place place.waker w q k y e
  registers_if_so false p c place wakers w q k y e = (refl, (_, _, _, e, refl))

  pub registers_so : (p c : ℕ) (w : World D) (q : Points) (k : ℕ) (y : List ℕ) → SeenSame limits seen see w q y → Follows limits seen see (registers p c w) (registers p c (with_other limits seen see q k y w))
  registers_so p c w q k y e = after limits seen see (an_atomic_waker p w) _ _ (λ place. after limits seen see (some_wakers c w) _ _ (λ wakers. registers_if_so (is_none place.holder) p c place wakers w q k y e))

  has_taken_so : (by : Taking) (o : Option ℕ) (w : World D) (q : Points) (k : ℕ) (y : List ℕ) → SeenSame limits seen see w q y → Follows limits seen see (has_taken by o w) (has_taken by o (with_other limits seen see q k y w))
  has_taken_so taking.Answer o w q k y e = (refl, (_, _, _, e, refl))
  has_taken_so taking.Wake None w q k y e = (refl, (_, _, _, e, refl))
  has_taken_so taking.Wake (Some c) w q k y e = after limits seen see (a_wakers c w) _ _ (λ wakers. (refl, (_, _, _, e, refl)))

  pub takes_waker_so : (by : Taking) (p : ℕ) (w : World D) (q : Points) (k : ℕ) (y : List ℕ) → SeenSame limits seen see w q y → Follows limits seen see (takes_waker by p w) (takes_waker by p (with_other limits seen see q k y w))
  takes_waker_so by p w q k y e =
      after limits seen see (an_atomic_waker p w) _ _ (λ place. after limits seen see (check (is_none place.holder) Misuse) _ _ (λ free.
      has_taken_so by place.waker (frees_place p (record place { waker = None }) (holds_place p place w)) (points_after_release (points_after_acquire q w.active p) w.active p Release) k y
      (tells.release (points_after_acquire w.points w.active p) (points_after_acquire q w.active p) w.active p Release (tells.acquire w.points q w.active p e.0), e.1)))
