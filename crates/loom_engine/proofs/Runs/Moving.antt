-- What each rule leaves as it is: a property of states that the moves keep is kept by every rule, but for those that are about
-- channels, values that are made once, and a thread's result, of which the property says so itself.
use Rattle.std.proofs.Common.{◌≡◌, ◌+◌, ℕ, Bool, true, false, List, [], ◌∷◌, ◌++◌, length, map, Option, Some, None, refl, subst, sym}
use Rattle.std.specs.Prelude.{◌==◌, is_none, is_some, nat_lt, not, slice_get, slice_index, slice_set, Result, Ok, Err, ⊤}
use Rattle.std.specs.declared.sync.atomic.Ordering.{Ordering}
use Rattle.loom_views.specs.Changes.{changed as changed_number, fit}
use Rattle.loom_views.specs.Limits.{highest_count}
use Rattle.loom_views.specs.Atomic.Slots.{slot_set}
use Rattle.loom_views.specs.Views.{Accessed, Points, points_after_load, points_after_raise, points_after_read, points_after_spawn, points_after_store, points_after_unsync_load, points_after_update_read, points_after_update_write, points_after_with_mut, points_after_with_mut_end, points_after_write, readable_slots_of}
use Rattle.loom_views.specs.declared.rt.atomic.reader.Reader.{Reader}
use Rattle.loom_views.specs.declared.rt.atomic.reader.Reader.TheVariants as reader
use Rattle.loom_views.specs.declared.rt.failure.FailureKind.{FailureKind}
use Rattle.loom_views.specs.declared.rt.failure.FailureKind.TheVariants.{KeyTaken, Misuse, OpenAccess, RelaxedFence, SecondWaiter, TooManySteps, TooManyThreads}
use Rattle.loom_objects.specs.declared.operation.ArcOp.{ArcOp}
use Rattle.loom_objects.specs.declared.operation.ArcOp.TheVariants as arc_op
use Rattle.loom_objects.specs.declared.operation.AtomicOp.{AtomicOp}
use Rattle.loom_objects.specs.declared.operation.AtomicOp.TheVariants as atomic_op
use Rattle.loom_objects.specs.declared.operation.AtomicWakerOp.{AtomicWakerOp}
use Rattle.loom_objects.specs.declared.operation.AtomicWakerOp.TheVariants as place_op
use Rattle.loom_objects.specs.declared.operation.CellOp.{CellOp}
use Rattle.loom_objects.specs.declared.operation.CellOp.TheVariants as cell_op
use Rattle.loom_objects.specs.declared.operation.CondvarOp.{CondvarOp}
use Rattle.loom_objects.specs.declared.operation.CondvarOp.TheVariants as condvar_op
use Rattle.loom_objects.specs.declared.operation.Exchange.{Exchange}
use Rattle.loom_objects.specs.declared.operation.Keyed.{Keyed}
use Rattle.loom_objects.specs.declared.operation.LocalOp.{LocalOp}
use Rattle.loom_objects.specs.declared.operation.LocalOp.TheVariants as local_op
use Rattle.loom_objects.specs.declared.operation.MutexOp.{MutexOp}
use Rattle.loom_objects.specs.declared.operation.MutexOp.TheVariants as mutex_op
use Rattle.loom_objects.specs.declared.operation.NotifyOp.{NotifyOp}
use Rattle.loom_objects.specs.declared.operation.NotifyOp.TheVariants as notify_op
use Rattle.loom_objects.specs.declared.operation.Reply.{Reply}
use Rattle.loom_objects.specs.declared.operation.RwLockOp.{RwLockOp}
use Rattle.loom_objects.specs.declared.operation.RwLockOp.TheVariants as lock_op
use Rattle.loom_objects.specs.declared.operation.ThreadOp.{ThreadOp}
use Rattle.loom_objects.specs.declared.operation.ThreadOp.TheVariants as thread_op
use Rattle.loom_objects.specs.declared.operation.TrackOp.{TrackOp}
use Rattle.loom_objects.specs.declared.operation.TrackOp.TheVariants as track_op
use Rattle.loom_objects.specs.declared.operation.WakerOp.{WakerOp}
use Rattle.loom_objects.specs.declared.operation.WakerOp.TheVariants as waker_op
use Rattle.loom_objects.specs.declared.rt.object.Object.{Object}
use Rattle.loom_objects.specs.declared.rt.object.Object.TheVariants as object
use Rattle.loom_objects.specs.declared.rt.run.Entry.{Entry}
use Rattle.loom_objects.specs.declared.rt.run.Passed.{Passed}
use Rattle.loom_objects.specs.declared.rt.run.Passed.TheVariants as passed
use Rattle.loom_objects.specs.declared.rt.atomic_waker.AtomicWaker.{AtomicWaker}
use Rattle.loom_objects.specs.declared.rt.mpsc.Channel.{Channel}
use Rattle.loom_objects.specs.declared.rt.notify.Notify.{Notify}
use Rattle.loom_objects.specs.declared.rt.rwlock.RwLock.{RwLock}
use Rattle.loom_objects.specs.declared.rt.notify.Spurious.TheVariants.{Never, NotYet}
use Rattle.loom_objects.specs.declared.rt.waker.Wakers.{Wakers}
use Rattle.loom_objects.specs.declared.rt.thread.AfterDrop.{AfterDrop}
use Rattle.loom_objects.specs.declared.rt.thread.AfterDrop.TheVariants as dropped
use Rattle.loom_objects.specs.declared.rt.thread.AfterWake.{AfterWake}
use Rattle.loom_objects.specs.declared.rt.thread.AfterWake.TheVariants as woken
use Rattle.loom_objects.specs.declared.rt.thread.Claim.{Claim}
use Rattle.loom_objects.specs.declared.rt.thread.Claim.TheVariants.{Read, TryRead, Write, TryWrite}
use Rattle.loom_objects.specs.declared.rt.thread.Counting.{Counting}
use Rattle.loom_objects.specs.declared.rt.thread.Counting.TheVariants as counting
use Rattle.loom_objects.specs.declared.rt.thread.Locking.{Locking}
use Rattle.loom_objects.specs.declared.rt.thread.Locking.TheVariants.{Timed, Untimed}
use Rattle.loom_objects.specs.declared.operation.Name.{Name}
use Rattle.loom_objects.specs.declared.rt.thread.Phase.TheVariants.{Exited, Over}
use Rattle.loom_objects.specs.declared.rt.thread.State.{State}
use Rattle.loom_objects.specs.declared.rt.thread.State.TheVariants.{Blocked, Ended, Parked, Runnable, Sleeping}
use Rattle.loom_objects.specs.declared.rt.thread.Taking.{Taking}
use Rattle.loom_objects.specs.declared.rt.thread.Taking.TheVariants as taking
use Rattle.loom_objects.specs.declared.rt.thread.Task.{Task}
use Rattle.loom_objects.specs.declared.rt.thread.Task.TheVariants as task
use Rattle.loom_objects.specs.declared.rt.thread.Thread.{Thread}
use Rattle.loom_objects.specs.declared.rt.thread.Waking.{Waking}
use Rattle.loom_objects.specs.declared.rt.thread.Waking.TheVariants.{All, One}
use Rattle.loom_objects.specs.Operation.Accessed.{accessed}
use Rattle.loom_objects.specs.Rules.Atomic.{access_begins, accesses, atomic_begins, exchanges, exchanges_if, fence, is_relaxed, opens, reads, some_slot, store, swap_of, writes}
use Rattle.loom_objects.specs.Rules.Cell.{cell_begins, data_left, exchanges_cells, is_free, is_unread, opens_write, reads_open, swap_if}
use Rattle.loom_objects.specs.Rules.Condvar.{condvar_begins, falls_asleep, relocks, wait_begins, wake_begins, wakes, with_waiters, woken_by}
use Rattle.loom_objects.specs.Rules.Arc.{arc_begins, comes_to, counts, decrements, drops_last, is_free as is_free_arc, may_grow, sole_value, tries_unwrap, unwraps_if}
use Rattle.loom_objects.specs.Lent.{value_in}
use Rattle.loom_objects.specs.Rules.Mutex.{free_value, frees, lock, locks_unless, mutex_begins, try_lock}
use Rattle.loom_objects.specs.Scene.Lookup.{looked_up, atomic_in, mutex_in, rwlock_in, condvar_in, notify_in, cell_in, arc_in, track_in, wakers_in, atomic_waker_in}
use Rattle.loom_objects.specs.Rules.Moves.{a_wakers, active_thread, at_phase, changed_at, having, in_state, is_number, pending, pending_with, releases, resting, rests, rouses, rouses_all, running, takes_result, target, joins_view, unparked, unparks, wakes_if, with_new, with_points, with_token, writing_with, written, yielded, yields, pends}
use Rattle.loom_objects.specs.Rules.Notify.{awaits, comes_to_wait, enters_wait, has_waker, is_alone, is_for_waits, may_be_spurious, notify_begins, notifies, notify, wait_begins as notifier_wait_begins, waits_or_rouses, wakes_early, with_notify}
use Rattle.loom_objects.specs.Rules.Rule.{◌>>=◌, check, found}
use Rattle.loom_objects.specs.Rules.RwLock.{claim_begins, claims, guards_of, is_refused, is_unread as is_unread_lock, reads_lock, rwlock_begins, takes_unless, unlocked_value, with_one_fewer, writes_lock}
use Rattle.loom_objects.specs.Rules.Thread.{child_finish, finish, has_own, is_exited, is_finished, join, parks_unless, thread_begins, without_locals}
use Rattle.loom_objects.specs.Rules.Alloc.{track_begins, track_take}
use Rattle.loom_objects.specs.Rules.Replied.{gone, replied}
use Rattle.loom_objects.specs.Rules.Locals.{is_taken, local_at, local_begins, local_or, none_there, puts_local, reads_local, with_local}
use Rattle.loom_objects.specs.Rules.Waker.{acquires_if, after_clone, after_drop, after_wake, clones_waker, drops_waker, frees_place, has_taken, holds_place, atomic_waker_begins, registers, registers_if, some_wakers, take_begins, takes_place, takes_waker, wake_begins as wake_by_begins, waker_begins, waker_pends, wakes_by}
use Rattle.loom_objects.specs.World.{World, MAX_THREADS, child_thread}
use Rattle.loom_engine.proofs.Runs.Answering.{Answers, answers_then}
use Rattle.loom_engine.proofs.Runs.Kept.{is_calling, IsAway, AwayAt, stated, unparked_same, KeptByMoves, set_away}

-- of a rule that leads to a state
abbrev pub Within : {D A : Type 0} → (World D → Type 0) → A × World D → Type 0
Within R answered = R answered.1

abbrev pub IsErr : {A : Type 0} → Result A FailureKind → Type 0
IsErr (Ok a) = ⊥
IsErr (Err kind) = Unit {0}

module _ {D : Type 0} (R : World D → Type 0) (k : KeptByMoves R) where
  pub onward : {A B : Type 0} (r : Result B FailureKind) (next : B → Result (A × World D) FailureKind) → ((b : B) → Answers (Within R) (next b)) → Answers (Within R) (r >>= next)
  onward r next h = answers_then (Within R) r next h

  pub from_there : {A B : Type 0} (r : Result (B × World D) FailureKind) (next : B × World D → Result (A × World D) FailureKind) → Answers (Within R) r
      → ((answered : B × World D) → R answered.1 → Answers (Within R) (next answered)) → Answers (Within R) (r >>= next)
  from_there (Ok answered) next s h = h answered s
  from_there (Err kind) next s h = tt

  -- only points change
  pub by_points : {A : Type 0} (v : World D) (r : Result Points FailureKind) (next : World D → Result (A × World D) FailureKind) → R v → ((p : Points) → R (with_points p v) → Answers (Within R) (next (with_points p v)))
      → Answers (Within R) ((r >>= (λ p. Ok (with_points p v))) >>= next)
  by_points v (Ok p) next s h = h p (k.points p v s)
  by_points v (Err kind) next s h = tt

  pub failing : {A B : Type 0} (r : Result B FailureKind) (next : B → Result (A × World D) FailureKind) → IsErr r → Answers (Within R) (r >>= next)
  failing (Ok b) next h = absurd h
  failing (Err kind) next h = tt

  -- an object is looked up that is no channel
  pub away : {A B : Type 0} (as_kind : Object D → Result B FailureKind) → ((channel : Channel D) → IsErr (as_kind (object.Channel channel))) → (o : Option (Object D)) (next : B → Result (A × World D) FailureKind)
      → ((b : B) → AwayAt o → Answers (Within R) (next b)) → Answers (Within R) (looked_up as_kind o >>= next)
  away as_kind none None next h = tt
  away as_kind none (Some (object.Channel channel)) next h = failing (as_kind (object.Channel channel)) next (none channel)
  away as_kind none (Some x) next h = onward (as_kind x) next (λ b. h b tt)

  -- ---- moves

  pub pends_so : (todo : Task D) (is_blocked : Bool) (w : World D) → is_calling todo ≡ false → R w → R (pends todo is_blocked w)
  pends_so todo is_blocked w idle s = k.turned (pending todo is_blocked) w (λ thread. record { shut = λ e. e; own = refl; idle = idle }) s

  pub wakes_so : (n : ℕ) (state : State) (w : World D) → R w → R (record w { threads = map (pending_with n state) w.threads })
  wakes_so n state w s = k.each (pending_with n state) w (λ thread. stated (is_number (target thread.task) n) state thread) s

  pub tells_so : (t : Option ℕ) (w : World D) → R w → R (joins_view t w)
  tells_so t w s = k.points _ w s

  pub releases_so : (n : ℕ) (w : World D) → R w → R (releases n w)
  releases_so n w s = k.points _ w s

  pub new_so : (x : Object D) (w : World D) → IsAway x → R w → R (with_new x w)
  new_so x w h s = k.points _ _ (k.made x w h s)

  pub yields_so : (todo : Task D) (w : World D) → is_calling todo ≡ false → R w → Answers (Within R) (yields todo w)
  yields_so todo w idle s =
      onward (active_thread w) _ (λ thread. onward (check (nat_lt (slice_index w.yields w.active) highest_count) TooManySteps) _ (λ u.
      k.points _ _ (k.yields _ _ (k.turned (yielded todo) w (λ thread. record { shut = λ e. e; own = refl; idle = idle }) s))))

  -- ---- atomics

  access_moves : (access : AtomicOp) (w : World D) → (R w → R (pends (task.Access access) false w)) → R w → Answers (Within R) (access_begins access w)
  access_moves access w a s = onward (found (accessed access) Misuse) _ (λ n. away atomic_in (λ c. tt) (slice_get w.objects n) _ (λ atomic there. a s))

  -- that an access is pending is said by the property
  pub atomic_moves : (todo : AtomicOp) (w : World D) → (R w → R (pends (task.Access todo) false w)) → R w → Answers (Within R) (atomic_begins todo w)
  atomic_moves (atomic_op.New numbers value) w a s = k.points _ _ (k.made _ w tt s)
  atomic_moves (atomic_op.UnsyncLoad n) w a s =
      away atomic_in (λ c. tt) (slice_get w.objects n) _ (λ atomic there. onward (points_after_unsync_load w.points w.active n) _ (λ read. k.points _ w s))
  atomic_moves (atomic_op.IntoInner n) w a s =
      away atomic_in (λ c. tt) (slice_get w.objects n) _ (λ atomic there. onward (points_after_unsync_load w.points w.active n) _ (λ read. k.points _ _ (k.object n _ w there tt s)))
  atomic_moves (atomic_op.WithMut n) w a s =
      away atomic_in (λ c. tt) (slice_get w.objects n) _ (λ atomic there. onward (points_after_with_mut w.points w.active n) _ (λ read. k.points _ _ (k.object n _ w there tt s)))
  atomic_moves (atomic_op.WithMutEnd n value) w a s =
      away atomic_in (λ c. tt) (slice_get w.objects n) _ (λ atomic there. onward (check (is_number atomic.opened w.active) Misuse) _ (λ u.
      onward (points_after_with_mut_end w.points w.active n (fit atomic.numbers value)) _ (λ stored. k.points _ _ (k.object n _ w there tt s))))
  atomic_moves (atomic_op.Load n order) w a s = access_moves (atomic_op.Load n order) w a s
  atomic_moves (atomic_op.Store n value order) w a s = access_moves (atomic_op.Store n value order) w a s
  atomic_moves (atomic_op.Update n change order) w a s = access_moves (atomic_op.Update n change order) w a s
  atomic_moves (atomic_op.CompareExchange n exchange) w a s = access_moves (atomic_op.CompareExchange n exchange) w a s
  atomic_moves (atomic_op.CompareAndSwap n expected new order) w a s = access_moves (atomic_op.CompareAndSwap n expected new order) w a s

  pub fence_moves : (order : Ordering) (w : World D) → R w → Answers (Within R) (fence order w)
  fence_moves order w s = by_points w (points_after_raise w.points w.active) _ s (λ p r. onward (check (not (is_relaxed order)) RelaxedFence) _ (λ u. k.points _ _ r))

  store_moves : (n value : ℕ) (order : Ordering) (w : World D) → R w → Answers (Within R) (store n value order w)
  store_moves n value order w s =
      by_points w (points_after_raise w.points w.active) _ s (λ p r. away atomic_in (λ c. tt) (slice_get w.objects n) _ (λ atomic there.
      onward (points_after_store p w.active n (fit atomic.numbers value) order) _ (λ stored. k.points _ _ r)))

  opens_moves : (n : ℕ) (reader : Reader) (access : AtomicOp) (w : World D) → R w → Answers (Within R) (opens n reader access w)
  opens_moves n reader access w s =
      by_points w (points_after_raise w.points w.active) _ s (λ p r. away atomic_in (λ c. tt) (slice_get w.objects n) _ (λ atomic there.
      onward (readable_slots_of p w.active n reader) _ (λ readable. onward (check (some_slot (slot_set readable)) Misuse) _ (λ u. r))))

  writes_moves : {A : Type 0} (n value : ℕ) (order : Ordering) (slot : ℕ) (w : World D) (next : World D → Result (A × World D) FailureKind) → R w
      → ((p : Points) → R (with_points p w) → Answers (Within R) (next (with_points p w))) → Answers (Within R) (writes n value order slot w >>= next)
  writes_moves n value order slot w next s h = by_written (points_after_update_write w.points w.active n slot value order)
    where
      by_written : (r : Result Accessed FailureKind) → Answers (Within R) ((r >>= (λ written. Ok (with_points written.points w))) >>= next)
      by_written (Ok written) = h written.points (k.points written.points w s)
      by_written (Err kind) = tt

  exchanges_if_moves : (is_expected : Bool) (n new : ℕ) (exchange : Exchange) (slot read : ℕ) (w : World D) → R w → Answers (Within R) (exchanges_if is_expected n new exchange slot read w)
  exchanges_if_moves true n new exchange slot read w s = writes_moves n new exchange.success slot w _ s (λ p r. r)
  exchanges_if_moves false n new exchange slot read w s = k.points _ w s

  exchanges_moves : (n : ℕ) (exchange : Exchange) (slot : ℕ) (w : World D) → R w → Answers (Within R) (exchanges n exchange slot w)
  exchanges_moves n exchange slot w s =
      away atomic_in (λ c. tt) (slice_get w.objects n) _ (λ atomic there. onward (points_after_update_read w.points w.active n slot) _ (λ read.
      exchanges_if_moves (read.value == fit atomic.numbers exchange.expected) n (fit atomic.numbers exchange.new) exchange slot read.value (with_points read.points w) (k.points _ w s)))

  pub reads_moves : (access : AtomicOp) (w : World D) (slot : ℕ) → R w → Answers (Within R) (reads access w slot)
  reads_moves (atomic_op.Load n order) w slot s = onward (points_after_load w.points w.active n slot order) _ (λ loaded. k.points _ w s)
  reads_moves (atomic_op.Update n change order) w slot s =
      away atomic_in (λ c. tt) (slice_get w.objects n) _ (λ atomic there. onward (points_after_update_read w.points w.active n slot) _ (λ read.
      writes_moves n (fit atomic.numbers (changed_number atomic.numbers change read.value)) order slot (with_points read.points w) _ (k.points _ w s) (λ p r. r)))
  reads_moves (atomic_op.CompareExchange n exchange) w slot s = from_there (exchanges n exchange slot w) _ (exchanges_moves n exchange slot w s) (λ answered r. r)
  reads_moves (atomic_op.CompareAndSwap n expected new order) w slot s =
      from_there (exchanges n (swap_of expected new order) slot w) _ (exchanges_moves n (swap_of expected new order) slot w s) (λ answered r. r)
  reads_moves (atomic_op.New numbers value) w slot s = tt
  reads_moves (atomic_op.Store n value order) w slot s = tt
  reads_moves (atomic_op.UnsyncLoad n) w slot s = tt
  reads_moves (atomic_op.IntoInner n) w slot s = tt
  reads_moves (atomic_op.WithMut n) w slot s = tt
  reads_moves (atomic_op.WithMutEnd n value) w slot s = tt

  -- ---- cells

  exchanges_cells_moves : (n m : ℕ) (w : World D) → R w → Answers (Within R) (exchanges_cells n m w)
  exchanges_cells_moves n m w s =
      away cell_in (λ c. tt) (slice_get w.objects n) _ (λ one there. away cell_in (λ c. tt) (slice_get w.objects m) _ (λ other beside.
      onward (found (value_in one.content) Misuse) _ (λ of_one. onward (found (value_in other.content) Misuse) _ (λ of_other.
      by_points w (points_after_write w.points w.active m) _ s (λ p r. by_points (with_points p w) (points_after_write p w.active n) _ r (λ q z.
      k.object n _ _ (set_away w.objects m n _ tt there) tt (k.object m _ (with_points q w) beside tt z)))))))

  opens_write_moves : (n : ℕ) (w : World D) → R w → Answers (Within R) (opens_write n w)
  opens_write_moves n w s =
      away cell_in (λ c. tt) (slice_get w.objects n) _ (λ cell there. by_points w (points_after_raise w.points w.active) _ s (λ p r. onward (check (is_free cell) OpenAccess) _ (λ u.
      by_points (with_points p w) (points_after_write p w.active n) _ r (λ q z. z))))

  swap_moves : (is_same : Bool) (n m : ℕ) (w : World D) → R w → Answers (Within R) (swap_if is_same n m w)
  swap_moves true n m w s = s
  swap_moves false n m w s =
      from_there (opens_write n w) _ (opens_write_moves n w s) (λ opened r. from_there (opens_write m opened.1) _ (opens_write_moves m opened.1 r) (λ both z. exchanges_cells_moves n m both.1 z))

  pub cell_moves : (todo : CellOp D) (w : World D) → R w → Answers (Within R) (cell_begins todo w)
  cell_moves (cell_op.New value) w s = k.points _ _ (k.made _ w tt s)
  cell_moves (cell_op.Read n) w s =
      away cell_in (λ c. tt) (slice_get w.objects n) _ (λ cell there. by_points w (points_after_raise w.points w.active) _ s (λ p r. onward (check (is_none cell.content.lent) OpenAccess) _ (λ u.
      by_points (with_points p w) (points_after_read p w.active n) _ r (λ q z. onward (found (value_in cell.content) Misuse) _ (λ value.
      onward (check (nat_lt (reads_open w.active cell) highest_count) TooManySteps) _ (λ v. k.object n _ (with_points q w) there tt z))))))
  cell_moves (cell_op.ReadEnd n) w s =
      away cell_in (λ c. tt) (slice_get w.objects n) _ (λ cell there. onward (check (nat_lt 0 (reads_open w.active cell)) Misuse) _ (λ u. onward (check (is_none cell.content.lent) OpenAccess) _ (λ v.
      by_points w (points_after_read w.points w.active n) _ s (λ p r. k.object n _ (with_points p w) there tt r))))
  cell_moves (cell_op.Deref n) w s =
      away cell_in (λ c. tt) (slice_get w.objects n) _ (λ cell there. onward (check (nat_lt 0 (reads_open w.active cell)) Misuse) _ (λ u. onward (found (value_in cell.content) Misuse) _ (λ value. s)))
  cell_moves (cell_op.Write n) w s =
      away cell_in (λ c. tt) (slice_get w.objects n) _ (λ cell there. by_points w (points_after_raise w.points w.active) _ s (λ p r. onward (check (is_free cell) OpenAccess) _ (λ u.
      by_points (with_points p w) (points_after_write p w.active n) _ r (λ q z. onward (found (value_in cell.content) Misuse) _ (λ value. k.object n _ (with_points q w) there tt z)))))
  cell_moves (cell_op.WriteEnd n value) w s =
      away cell_in (λ c. tt) (slice_get w.objects n) _ (λ cell there. onward (check (is_number cell.content.lent w.active) Misuse) _ (λ u. onward (check (is_unread cell) OpenAccess) _ (λ v.
      by_points w (points_after_write w.points w.active n) _ s (λ p r. k.object n _ (with_points p w) there tt r))))
  cell_moves (cell_op.IntoInner n) w s = away cell_in (λ c. tt) (slice_get w.objects n) _ (λ cell there. onward (data_left cell) _ (λ value. k.object n _ w there tt s))
  cell_moves (cell_op.Get n) w s =
      away cell_in (λ c. tt) (slice_get w.objects n) _ (λ cell there. by_points w (points_after_raise w.points w.active) _ s (λ p r. onward (check (is_none cell.content.lent) OpenAccess) _ (λ u.
      by_points (with_points p w) (points_after_read p w.active n) _ r (λ q z. onward (found (value_in cell.content) Misuse) _ (λ value.
      by_points (with_points q w) (points_after_read q w.active n) _ z (λ o y. y))))))
  cell_moves (cell_op.Replace n new) w s =
      away cell_in (λ c. tt) (slice_get w.objects n) _ (λ cell there. by_points w (points_after_raise w.points w.active) _ s (λ p r. onward (check (is_free cell) OpenAccess) _ (λ u.
      by_points (with_points p w) (points_after_write p w.active n) _ r (λ q z. onward (found (value_in cell.content) Misuse) _ (λ value.
      by_points (with_points q w) (points_after_write q w.active n) _ z (λ o y. k.object n _ (with_points o w) there tt y))))))
  cell_moves (cell_op.Swap n m) w s =
      away cell_in (λ c. tt) (slice_get w.objects n) _ (λ one there. away cell_in (λ c. tt) (slice_get w.objects m) _ (λ other beside. swap_moves (n == m) n m w s))

  -- ---- counted references and tracked values

  comes_to_moves : (todo : Task D) (n : ℕ) (w : World D) → is_calling todo ≡ false → R w → Answers (Within R) (comes_to todo n w)
  comes_to_moves todo n w idle s = away arc_in (λ c. tt) (slice_get w.objects n) _ (λ arc there. onward (check (nat_lt 0 arc.count) Misuse) _ (λ u. pends_so todo false w idle s))

  pub arc_moves : (todo : ArcOp D) (w : World D) → R w → Answers (Within R) (arc_begins todo w)
  arc_moves (arc_op.New value) w s = k.points _ _ (k.made _ w tt s)
  arc_moves (arc_op.Get n) w s = away arc_in (λ c. tt) (slice_get w.objects n) _ (λ arc there. onward (check (is_free_arc arc) Misuse) _ (λ u. onward (found (value_in arc.content) Misuse) _ (λ value. s)))
  arc_moves (arc_op.Put n value) w s = away arc_in (λ c. tt) (slice_get w.objects n) _ (λ arc there. onward (check (is_number arc.content.lent w.active) Misuse) _ (λ u. k.object n _ w there tt s))
  arc_moves (arc_op.Clone n) w s = comes_to_moves _ n w refl s
  arc_moves (arc_op.Drop n) w s = comes_to_moves _ n w refl s
  arc_moves (arc_op.GetMut n) w s = comes_to_moves _ n w refl s
  arc_moves (arc_op.StrongCount n) w s = comes_to_moves _ n w refl s
  arc_moves (arc_op.TryUnwrap n) w s = comes_to_moves _ n w refl s

  drops_moves : (value : Option D) (n : ℕ) (w : World D) → R w → Answers (Within R) (drops_last value n w)
  drops_moves None n w s = s
  drops_moves (Some value) n w s = k.points _ w s

  decrements_moves : (n : ℕ) (w : World D) → R w → Answers (Within R) (decrements n w)
  decrements_moves n w s = away arc_in (λ c. tt) (slice_get w.objects n) _ (λ arc there. onward (sole_value arc) _ (λ value. drops_moves value n _ (k.points _ _ (k.object n _ w there tt s))))

  pub counts_moves : (todo : Counting) (n : ℕ) (w : World D) → R w → Answers (Within R) (counts todo n w)
  counts_moves counting.Clone n w s = away arc_in (λ c. tt) (slice_get w.objects n) _ (λ arc there. onward (may_grow arc) _ (λ u. k.object n _ w there tt s))
  counts_moves counting.Drop n w s = decrements_moves n w s
  counts_moves counting.GetMut n w s = away arc_in (λ c. tt) (slice_get w.objects n) _ (λ arc there. onward (sole_value arc) _ (λ value. k.points _ _ (k.object n _ w there tt s)))
  counts_moves counting.Unwrap n w s = away arc_in (λ c. tt) (slice_get w.objects n) _ (λ arc there. onward (check (arc.count == 1) Misuse) _ (λ u. decrements_moves n w s))
  counts_moves counting.StrongCount n w s = away arc_in (λ c. tt) (slice_get w.objects n) _ (λ arc there. onward (check (is_free_arc arc) Misuse) _ (λ u. k.points _ w s))

  unwraps_moves : (is_alone : Bool) (n : ℕ) (w : World D) → R w → Answers (Within R) (unwraps_if is_alone n w)
  unwraps_moves false n w s = s
  unwraps_moves true n w s = pends_so (task.Count counting.Unwrap n) false w refl s

  pub tries_unwrap_moves : (n : ℕ) (w : World D) → R w → Answers (Within R) (tries_unwrap n w)
  tries_unwrap_moves n w s = away arc_in (λ c. tt) (slice_get w.objects n) _ (λ arc there. onward (check (is_free_arc arc) Misuse) _ (λ u. unwraps_moves (arc.count == 1) n _ (k.points _ w s)))

  take_moves : (n : ℕ) (w : World D) → R w → Answers (Within R) (track_take n w)
  take_moves n w s = away track_in (λ c. tt) (slice_get w.objects n) _ (λ track there. onward (found (value_in track.content) Misuse) _ (λ value. k.object n _ w there tt s))

  pub track_moves : (todo : TrackOp D) (w : World D) → R w → Answers (Within R) (track_begins todo w)
  track_moves (track_op.New value) w s = k.points _ _ (k.made _ w tt s)
  track_moves (track_op.GetRef n) w s = away track_in (λ c. tt) (slice_get w.objects n) _ (λ track there. onward (found (value_in track.content) Misuse) _ (λ value. s))
  track_moves (track_op.GetMut n) w s = away track_in (λ c. tt) (slice_get w.objects n) _ (λ track there. onward (found (value_in track.content) Misuse) _ (λ value. k.object n _ w there tt s))
  track_moves (track_op.Put n value) w s = away track_in (λ c. tt) (slice_get w.objects n) _ (λ track there. onward (check (is_number track.content.lent w.active) Misuse) _ (λ u. k.object n _ w there tt s))
  track_moves (track_op.IntoInner n) w s = take_moves n w s
  track_moves (track_op.Drop n) w s = take_moves n w s

  -- ---- locks

  pub lock_moves : (locking : Locking) (n : ℕ) (w : World D) → R w → Answers (Within R) (lock locking n w)
  lock_moves locking n w s = away mutex_in (λ c. tt) (slice_get w.objects n) _ (λ mutex there. onward (found (free_value mutex) Misuse) _ (λ value. wakes_so n Blocked _ (k.points _ _ (k.object n _ w there tt s))))

  locks_unless_moves : (is_held : Bool) (n : ℕ) (w : World D) → R w → Answers (Within R) (locks_unless is_held n w)
  locks_unless_moves true n w s = s
  locks_unless_moves false n w s = lock_moves Untimed n w s

  pub try_lock_moves : (n : ℕ) (w : World D) → R w → Answers (Within R) (try_lock n w)
  try_lock_moves n w s = away mutex_in (λ c. tt) (slice_get w.objects n) _ (λ mutex there. onward (check (is_none mutex.content.lent) Misuse) _ (λ u. locks_unless_moves (is_some mutex.holder) n w s))

  frees_moves : (n : ℕ) (value : D) (w : World D) → R w → Answers (Within R) (frees n value w)
  frees_moves n value w s = away mutex_in (λ c. tt) (slice_get w.objects n) _ (λ mutex there. onward (check (is_number mutex.holder w.active) Misuse) _ (λ u. wakes_so n Runnable _ (k.points _ _ (k.object n _ w there tt s))))

  pub mutex_moves : (todo : MutexOp D) (w : World D) → R w → Answers (Within R) (mutex_begins todo w)
  mutex_moves (mutex_op.New value) w s = k.points _ _ (k.made _ w tt s)
  mutex_moves (mutex_op.Lock n) w s = away mutex_in (λ c. tt) (slice_get w.objects n) _ (λ mutex there. pends_so (task.Lock Untimed n) (is_some mutex.holder) w refl s)
  mutex_moves (mutex_op.TryLock n) w s = away mutex_in (λ c. tt) (slice_get w.objects n) _ (λ mutex there. pends_so (task.TryLock n) false w refl s)
  mutex_moves (mutex_op.Release n value) w s = from_there (frees n value w) _ (frees_moves n value w s) (λ freed r. r)
  mutex_moves (mutex_op.GetMut n) w s = away mutex_in (λ c. tt) (slice_get w.objects n) _ (λ mutex there. onward (found (free_value mutex) Misuse) _ (λ value. k.object n _ w there tt s))
  mutex_moves (mutex_op.Put n value) w s = away mutex_in (λ c. tt) (slice_get w.objects n) _ (λ mutex there. onward (check (is_number mutex.content.lent w.active) Misuse) _ (λ u. k.object n _ w there tt s))
  mutex_moves (mutex_op.IntoInner n) w s = away mutex_in (λ c. tt) (slice_get w.objects n) _ (λ mutex there. onward (found (free_value mutex) Misuse) _ (λ value. k.object n _ w there tt s))

  claim_moves : (claim : Claim) (n : ℕ) (w : World D) → R w → Answers (Within R) (claim_begins claim n w)
  claim_moves claim n w s = away rwlock_in (λ c. tt) (slice_get w.objects n) _ (λ lock there. pends_so (task.Claim claim n) _ w refl s)

  wakes_if_moves : (wakes : Bool) (n : ℕ) (w : World D) → R w → R (wakes_if wakes n w)
  wakes_if_moves true n w s = wakes_so n Runnable w s
  wakes_if_moves false n w s = s

  pub rwlock_moves : (todo : RwLockOp D) (w : World D) → R w → Answers (Within R) (rwlock_begins todo w)
  rwlock_moves (lock_op.New value) w s = k.points _ _ (k.made _ w tt s)
  rwlock_moves (lock_op.Read n) w s = claim_moves Read n w s
  rwlock_moves (lock_op.TryRead n) w s = claim_moves TryRead n w s
  rwlock_moves (lock_op.Write n) w s = claim_moves Write n w s
  rwlock_moves (lock_op.TryWrite n) w s = claim_moves TryWrite n w s
  rwlock_moves (lock_op.ReadRelease n) w s =
      away rwlock_in (λ c. tt) (slice_get w.objects n) _ (λ lock there. onward (check (nat_lt 0 (guards_of w.active lock)) Misuse) _ (λ u.
      wakes_if_moves (is_unread_lock (with_one_fewer w.active lock)) n _ (k.points _ _ (k.object n _ w there tt s))))
  rwlock_moves (lock_op.WriteRelease n value) w s =
      away rwlock_in (λ c. tt) (slice_get w.objects n) _ (λ lock there. onward (check (is_number lock.writer w.active) Misuse) _ (λ u. wakes_so n Runnable _ (k.points _ _ (k.object n _ w there tt s))))
  rwlock_moves (lock_op.GetMut n) w s = away rwlock_in (λ c. tt) (slice_get w.objects n) _ (λ lock there. onward (found (unlocked_value lock) Misuse) _ (λ value. k.object n _ w there tt s))
  rwlock_moves (lock_op.Put n value) w s = away rwlock_in (λ c. tt) (slice_get w.objects n) _ (λ lock there. onward (check (is_number lock.content.lent w.active) Misuse) _ (λ u. k.object n _ w there tt s))
  rwlock_moves (lock_op.IntoInner n) w s = away rwlock_in (λ c. tt) (slice_get w.objects n) _ (λ lock there. onward (found (unlocked_value lock) Misuse) _ (λ value. k.object n _ w there tt s))

  reads_lock_moves : (n : ℕ) (lock : RwLock D) (w : World D) → AwayAt (slice_get w.objects n) → R w → Answers (Within R) (reads_lock n lock w)
  reads_lock_moves n lock w there s =
      onward (found (value_in lock.content) Misuse) _ (λ value. onward (check (nat_lt (guards_of w.active lock) highest_count) TooManySteps) _ (λ u.
      k.each (writing_with n Blocked) _ (λ thread. stated (is_number (written thread.task) n) Blocked thread) (k.points _ _ (k.object n _ w there tt s))))

  writes_lock_moves : (n : ℕ) (lock : RwLock D) (w : World D) → AwayAt (slice_get w.objects n) → R w → Answers (Within R) (writes_lock n lock w)
  writes_lock_moves n lock w there s = onward (found (value_in lock.content) Misuse) _ (λ value. wakes_so n Blocked _ (k.points _ _ (k.object n _ w there tt s)))

  takes_moves : (refuses : Bool) (claim : Claim) (n : ℕ) (lock : RwLock D) (w : World D) → AwayAt (slice_get w.objects n) → R w → Answers (Within R) (takes_unless refuses claim n lock w)
  takes_moves true Read n lock w there s = tt
  takes_moves true TryRead n lock w there s = s
  takes_moves true Write n lock w there s = tt
  takes_moves true TryWrite n lock w there s = s
  takes_moves false Read n lock w there s = reads_lock_moves n lock w there s
  takes_moves false TryRead n lock w there s = reads_lock_moves n lock w there s
  takes_moves false Write n lock w there s = writes_lock_moves n lock w there s
  takes_moves false TryWrite n lock w there s = writes_lock_moves n lock w there s

  pub claims_moves : (claim : Claim) (n : ℕ) (w : World D) → R w → Answers (Within R) (claims claim n w)
  claims_moves claim n w s =
      away rwlock_in (λ c. tt) (slice_get w.objects n) _ (λ lock there. onward (check (is_none lock.content.lent) Misuse) _ (λ u. takes_moves (is_refused claim lock) claim n lock w there s))

  -- ---- condition variables and notifiers

  wait_moves : (locking : Locking) (n m : ℕ) (value : D) (w : World D) → R w → Answers (Within R) (wait_begins locking n m value w)
  wait_moves locking n m value w s =
      away condvar_in (λ c. tt) (slice_get w.objects n) _ (λ condvar there. away mutex_in (λ c. tt) (slice_get w.objects m) _ (λ mutex beside.
      onward (check (is_number mutex.holder w.active) Misuse) _ (λ u. pends_so (task.Wait locking n m value) false w refl s)))

  wake_moves : (waking : Waking) (n : ℕ) (w : World D) → R w → Answers (Within R) (wake_begins waking n w)
  wake_moves waking n w s = away condvar_in (λ c. tt) (slice_get w.objects n) _ (λ condvar there. pends_so (task.Wake waking n) false w refl s)

  pub condvar_moves : (todo : CondvarOp D) (w : World D) → R w → Answers (Within R) (condvar_begins todo w)
  condvar_moves condvar_op.New w s = k.points _ _ (k.made _ w tt s)
  condvar_moves (condvar_op.Wait n m value) w s = wait_moves Untimed n m value w s
  condvar_moves (condvar_op.WaitTimeout n m value) w s = wait_moves Timed n m value w s
  condvar_moves (condvar_op.NotifyOne n) w s = wake_moves One n w s
  condvar_moves (condvar_op.NotifyAll n) w s = wake_moves All n w s

  pub falls_asleep_moves : (locking : Locking) (n m : ℕ) (value : D) (w : World D) → R w → Answers (Within R) (falls_asleep locking n m value w)
  falls_asleep_moves locking n m value w s =
      away condvar_in (λ c. tt) (slice_get w.objects n) _ (λ condvar there. onward (check (nat_lt (length condvar.waiters.items) MAX_THREADS) Misuse) _ (λ u.
      let queued = with_waiters n (condvar.waiters.items ++ w.active ∷ []) w in
      from_there (frees m value queued) (λ freed. Ok (passed.AtBranch, rests Sleeping (task.Relock locking m) freed.1)) (frees_moves m value queued (k.object n _ w there tt s)) (λ freed r.
      k.turned (resting Sleeping (task.Relock locking m)) freed.1 (λ thread. record { shut = λ e. e; own = refl; idle = refl }) r)))

  pub relocks_moves : (locking : Locking) (m : ℕ) (w : World D) → R w → Answers (Within R) (relocks locking m w)
  relocks_moves locking m w s = pends_so (task.Lock locking m) _ w refl s

  rouses_moves : (threads : List ℕ) (w : World D) → R w → R (rouses_all threads w)
  rouses_moves [] w s = s
  rouses_moves (t ∷ threads) w s = rouses_moves threads (rouses t w) (k.points _ _ (k.changed running t w (λ thread. record { shut = λ e. e; own = refl; same = refl }) s))

  pub wakes_moves : (waking : Waking) (n : ℕ) (w : World D) → R w → Answers (Within R) (wakes waking n w)
  wakes_moves waking n w s = away condvar_in (λ c. tt) (slice_get w.objects n) _ (λ condvar there. rouses_moves (woken_by waking condvar.waiters.items) _ (k.object n _ w there tt s))

  waits_moves : (may_be : Bool) (n : ℕ) (notifier : Notify) (w : World D) → AwayAt (slice_get w.objects n) → R w → Answers (Within R) (comes_to_wait may_be n notifier w)
  waits_moves true n notifier w there s = s
  waits_moves false n notifier w there s = pends_so (task.Await n) (not notifier.notified) _ refl (k.object n _ w there tt s)

  notifier_wait_moves : (n : ℕ) (w : World D) → R w → Answers (Within R) (notifier_wait_begins n w)
  notifier_wait_moves n w s =
      away notify_in (λ c. tt) (slice_get w.objects n) _ (λ notifier there. onward (check (is_for_waits notifier.spurious) Misuse) _ (λ u. onward (check (is_alone w.active notifier) SecondWaiter) _ (λ v.
      waits_moves (may_be_spurious notifier.spurious) n notifier w there s)))

  pub notifier_moves : (todo : NotifyOp) (w : World D) → R w → Answers (Within R) (notify_begins todo w)
  notifier_moves notify_op.New w s = k.points _ _ (k.made _ w tt s)
  notifier_moves (notify_op.Notify n) w s = away notify_in (λ c. tt) (slice_get w.objects n) _ (λ notifier there. onward (check (is_for_waits notifier.spurious) Misuse) _ (λ u. pends_so (task.Notify n) false w refl s))
  notifier_moves (notify_op.Wait n) w s = notifier_wait_moves n w s

  waits_or_rouses_moves : (is_spurious : Bool) (n : ℕ) (notifier : Notify) (w : World D) → AwayAt (slice_get w.objects n) → R w → Answers (Within R) (waits_or_rouses is_spurious n notifier w)
  waits_or_rouses_moves true n notifier w there s = yields_so (task.Rouse n) _ refl (k.object n _ w there tt s)
  waits_or_rouses_moves false n notifier w there s = pends_so (task.Await n) (not notifier.notified) _ refl (k.object n _ w there tt s)

  pub enters_wait_moves : (is_spurious : Bool) (n : ℕ) (w : World D) → R w → Answers (Within R) (enters_wait is_spurious n w)
  enters_wait_moves is_spurious n w s = away notify_in (λ c. tt) (slice_get w.objects n) _ (λ notifier there. waits_or_rouses_moves is_spurious n notifier w there s)

  notify_moves : (n : ℕ) (w : World D) → R w → Answers (Within R) (notify n w)
  notify_moves n w s = away notify_in (λ c. tt) (slice_get w.objects n) _ (λ notifier there.
      let noted = with_notify n (record notifier { notified = true }) w in
      let released = releases n noted in
      wakes_so n Runnable (joins_view notifier.waiter released) (tells_so notifier.waiter released (releases_so n noted (k.object n _ w there tt s))))

  pub notifies_moves : (n : ℕ) (w : World D) → R w → Answers (Within R) (notifies n w)
  notifies_moves n w s = from_there (notify n w) _ (notify_moves n w s) (λ after r. r)

  pub awaits_moves : (n : ℕ) (w : World D) → R w → Answers (Within R) (awaits n w)
  awaits_moves n w s = away notify_in (λ c. tt) (slice_get w.objects n) _ (λ notifier there. onward (has_waker notifier.wakers w) _ (λ v. onward (check notifier.notified Misuse) _ (λ u. k.points _ _ (k.object n _ w there tt s))))

  pub wakes_early_moves : (n : ℕ) (w : World D) → R w → Answers (Within R) (wakes_early n w)
  wakes_early_moves n w s = away notify_in (λ c. tt) (slice_get w.objects n) _ (λ notifier there. onward (has_waker notifier.wakers w) _ (λ u. k.object n _ w there tt s))

  -- ---- wakers, and places for them

  some_moves : {A : Type 0} (c : ℕ) (w : World D) (next : Wakers → Result (A × World D) FailureKind) → ((wakers : Wakers) → AwayAt (slice_get w.objects c) → Answers (Within R) (next wakers))
      → Answers (Within R) (some_wakers c w >>= next)
  some_moves {A} c w next h = by_object (slice_get w.objects c) refl
    where
      by_count : (is_some_left : Bool) (wakers : Wakers) → AwayAt (slice_get w.objects c) → Answers (Within R) ((check is_some_left Misuse >>= (λ u. Ok wakers)) >>= next)
      by_count true wakers there = h wakers there
      by_count false wakers there = tt

      by_object : (o : Option (Object D)) → slice_get w.objects c ≡ o → Answers (Within R) ((looked_up wakers_in o >>= (λ wakers. check (nat_lt 0 wakers.count) Misuse >>= (λ u. Ok wakers))) >>= next)
      by_object None e = tt
      by_object (Some (object.Wakers wakers)) e = by_count (nat_lt 0 wakers.count) wakers (subst AwayAt (sym e) tt)
      by_object (Some _) e = tt

  waker_pends_moves : (todo : Task D) (c : ℕ) (w : World D) → is_calling todo ≡ false → R w → Answers (Within R) (waker_pends todo c w)
  waker_pends_moves todo c w idle s = some_moves c w _ (λ wakers there. pends_so todo false w idle s)

  wake_by_moves : (after : AfterWake) (c : ℕ) (w : World D) → R w → Answers (Within R) (wake_by_begins after c w)
  wake_by_moves after c w s = some_moves c w _ (λ wakers there. pends_so (task.WakeBy wakers.notifier c after) false w refl s)

  pub waker_moves : (todo : WakerOp) (w : World D) → R w → Answers (Within R) (waker_begins todo w)
  waker_moves waker_op.New w s =
      let notifier = object.Notify (record { notified = false; waiter = None; spurious = NotYet; wakers = Some (length w.objects + 1) }) in
      new_so (object.Wakers (record { notifier = length w.objects; count = 1 })) (with_new notifier w) tt (new_so notifier w tt s)
  waker_moves (waker_op.Wait c) w s = some_moves c w _ (λ wakers there. notifier_wait_moves wakers.notifier w s)
  waker_moves (waker_op.Finish c) w s = waker_pends_moves (task.DropWaker c dropped.Done) c w refl s
  waker_moves (waker_op.Clone c) w s = waker_pends_moves (task.CloneWaker c None) c w refl s
  waker_moves (waker_op.Wake c) w s = wake_by_moves (woken.Drop dropped.Done) c w s
  waker_moves (waker_op.WakeByRef c) w s = wake_by_moves woken.Done c w s
  waker_moves (waker_op.Drop c) w s = waker_pends_moves (task.DropWaker c dropped.Done) c w refl s

  take_begins_moves : (by : Taking) (p : ℕ) (w : World D) → R w → Answers (Within R) (take_begins by p w)
  take_begins_moves by p w s = away atomic_waker_in (λ c. tt) (slice_get w.objects p) _ (λ place there. pends_so (task.TakeWaker by p) (is_some place.holder) w refl s)

  pub place_moves : (todo : AtomicWakerOp) (w : World D) → R w → Answers (Within R) (atomic_waker_begins todo w)
  place_moves place_op.New w s = k.points _ _ (k.made _ w tt s)
  place_moves (place_op.Register p c) w s = away atomic_waker_in (λ c. tt) (slice_get w.objects p) _ (λ place there. waker_pends_moves (task.Register p c) c w refl s)
  place_moves (place_op.RegisterByRef p c) w s = away atomic_waker_in (λ c. tt) (slice_get w.objects p) _ (λ place there. waker_pends_moves (task.CloneWaker c (Some p)) c w refl s)
  place_moves (place_op.Wake p) w s = take_begins_moves taking.Wake p w s
  place_moves (place_op.TakeWaker p) w s = take_begins_moves taking.Answer p w s
  place_moves (place_op.Drop p) w s = away atomic_waker_in (λ c. tt) (slice_get w.objects p) _ (λ place there. k.object p _ w there tt s)

  holds_moves : (p : ℕ) (place : AtomicWaker) (w : World D) → AwayAt (slice_get w.objects p) → R w → R (holds_place p place w)
  holds_moves p place w there s = wakes_so p Blocked _ (k.points _ _ (k.object p _ w there tt s))

  frees_place_moves : (p : ℕ) (place : AtomicWaker) (w : World D) → AwayAt (slice_get w.objects p) → R w → R (frees_place p place w)
  frees_place_moves p place w there s = wakes_so p Runnable _ (k.points _ _ (k.object p _ w there tt s))

  after_wake_moves : (after : AfterWake) (c : ℕ) (w : World D) → R w → Answers (Within R) (after_wake after c w)
  after_wake_moves woken.Done c w s = s
  after_wake_moves (woken.Drop after) c w s = pends_so (task.DropWaker c after) false w refl s

  pub wakes_by_moves : (n c : ℕ) (after : AfterWake) (w : World D) → R w → Answers (Within R) (wakes_by n c after w)
  wakes_by_moves n c after w s = some_moves c w _ (λ wakers there. from_there (notify n w) _ (notify_moves n w s) (λ notified r. after_wake_moves after c notified.1 r))

  after_clone_moves : (place : Option ℕ) (c : ℕ) (w : World D) → R w → Answers (Within R) (after_clone place c w)
  after_clone_moves None c w s = s
  after_clone_moves (Some p) c w s = pends_so (task.Register p c) false w refl s

  pub clones_waker_moves : (c : ℕ) (place : Option ℕ) (w : World D) → R w → Answers (Within R) (clones_waker c place w)
  clones_waker_moves c place w s =
      some_moves c w _ (λ wakers there. onward (check (nat_lt wakers.count highest_count) TooManySteps) _ (λ u. after_clone_moves place c _ (k.object c _ w there tt s)))

  after_drop_moves : (after : AfterDrop) (w : World D) → R w → Answers (Within R) (after_drop after w)
  after_drop_moves dropped.Done w s = s
  after_drop_moves dropped.Yield w s = from_there (yields task.Continue w) _ (yields_so task.Continue w refl s) (λ yielded r. r)
  after_drop_moves (dropped.Free p) w s = away atomic_waker_in (λ c. tt) (slice_get w.objects p) _ (λ place there. frees_place_moves p place w there s)

  acquires_if_moves : (is_last : Bool) (c : ℕ) (w : World D) → R w → R (acquires_if is_last c w)
  acquires_if_moves true c w s = k.points _ w s
  acquires_if_moves false c w s = s

  pub drops_waker_moves : (c : ℕ) (after : AfterDrop) (w : World D) → R w → Answers (Within R) (drops_waker c after w)
  drops_waker_moves c after w s = some_moves c w _ (λ wakers there. after_drop_moves after _ (acquires_if_moves (wakers.count == 1) c _ (k.points _ _ (k.object c _ w there tt s))))

  takes_place_moves : (p c : ℕ) (place : AtomicWaker) (old : Option ℕ) (w : World D) → AwayAt (slice_get w.objects p) → R w → Answers (Within R) (takes_place p c place old w)
  takes_place_moves p c place None w there s = frees_place_moves p (record place { waker = Some c }) (holds_place p place w) (set_away w.objects p p _ tt there) (holds_moves p place w there s)
  takes_place_moves p c place (Some old) w there s = pends_so (task.DropWaker old (dropped.Free p)) false _ refl (holds_moves p (record place { waker = Some c }) w there s)

  registers_if_moves : (is_free : Bool) (p c : ℕ) (place : AtomicWaker) (wakers : Wakers) (w : World D) → AwayAt (slice_get w.objects p) → R w → Answers (Within R) (registers_if is_free p c place wakers w)
  registers_if_moves true p c place wakers w there s = takes_place_moves p c place place.waker w there s
  registers_if_moves false p c place wakers w there s = pends_so (task.WakeBy wakers.notifier c (woken.Drop dropped.Yield)) false w refl s

  pub registers_moves : (p c : ℕ) (w : World D) → R w → Answers (Within R) (registers p c w)
  registers_moves p c w s = away atomic_waker_in (λ c. tt) (slice_get w.objects p) _ (λ place there. some_moves c w _ (λ wakers beside. registers_if_moves (is_none place.holder) p c place wakers w there s))

  has_taken_moves : (by : Taking) (waker : Option ℕ) (w : World D) → R w → Answers (Within R) (has_taken by waker w)
  has_taken_moves taking.Answer waker w s = s
  has_taken_moves taking.Wake None w s = s
  has_taken_moves taking.Wake (Some c) w s = onward (a_wakers c w) _ (λ wakers. pends_so (task.WakeBy wakers.notifier c (woken.Drop dropped.Done)) false w refl s)

  pub takes_waker_moves : (by : Taking) (p : ℕ) (w : World D) → R w → Answers (Within R) (takes_waker by p w)
  takes_waker_moves by p w s =
      away atomic_waker_in (λ c. tt) (slice_get w.objects p) _ (λ place there. onward (check (is_none place.holder) Misuse) _ (λ u.
      has_taken_moves by place.waker _ (frees_place_moves p (record place { waker = None }) (holds_place p place w) (set_away w.objects p p _ tt there) (holds_moves p place w there s))))

  -- ---- a thread's own values

  none_there_moves : (gone : Result (Entry D × World D) FailureKind) (was_there : Bool) (w : World D) → Answers (Within R) gone → R w → Answers (Within R) (none_there gone was_there w)
  none_there_moves gone true w h s = h
  none_there_moves gone false w h s = s

  reads_local_moves : (gone : Result (Entry D × World D) FailureKind) (was_there : Bool) (local : Option (Keyed D)) (w : World D) → Answers (Within R) gone → R w → Answers (Within R) (reads_local gone was_there local w)
  reads_local_moves gone was_there None w h s = none_there_moves gone was_there w h s
  reads_local_moves gone was_there (Some local) w h s = s

  local_or_moves : (gone : Result (Entry D × World D) FailureKind) (key : ℕ) (w : World D) → Answers (Within R) gone → R w → Answers (Within R) (local_or gone key w)
  local_or_moves gone key w h s = onward (active_thread w) _ (λ thread. reads_local_moves gone (is_taken key thread) (local_at key thread) w h s)

  puts_local_moves : (key : ℕ) (value : D) (local : Option (Keyed D)) (w : World D) → R w → Answers (Within R) (puts_local key value local w)
  puts_local_moves key value None w s = tt
  puts_local_moves key value (Some local) w s = k.changed _ w.active w (λ thread. record { shut = λ e. e; own = refl; same = refl }) s

  pub local_moves : (todo : LocalOp D) (w : World D) → R w → Answers (Within R) (local_begins todo w)
  local_moves (local_op.With key) w s = local_or_moves _ key w tt s
  local_moves (local_op.TryWith key) w s = local_or_moves _ key w s s
  local_moves (local_op.Init key value) w s =
      onward (active_thread w) _ (λ thread. onward (check (not (is_taken key thread)) KeyTaken) _ (λ u.
      k.changed (with_local key value) w.active w (λ thread. record { shut = λ e. e; own = refl; same = refl }) s))
  local_moves (local_op.Put key value) w s = onward (active_thread w) _ (λ thread. puts_local_moves key value (local_at key thread) w s)

  -- ---- threads

  spawn_moves : (name : Option Name) (w : World D) → R w → Answers (Within R) (thread_begins (thread_op.Spawn tt name) w)
  spawn_moves name w s =
      onward (check (nat_lt (length w.threads) w.max_threads) TooManyThreads) _ (λ u. onward (points_after_spawn w.points w.active) _ (λ points.
      let child = child_thread name (length w.objects) in
      let begun = with_points points (record w { threads = w.threads ++ child ∷ [] }) in
      new_so (object.Notify (record { notified = false; waiter = None; spurious = Never; wakers = None })) begun tt (k.points points _ (k.child child w refl refl s))))

  join_begins_moves : (t n : ℕ) (w : World D) → R w → Answers (Within R) (thread_begins (thread_op.Join t n) w)
  join_begins_moves t n w s =
      onward (check (has_own (slice_get w.threads t) n) Misuse) _ (λ u. away notify_in (λ c. tt) (slice_get w.objects n) _ (λ notifier there. onward (check (is_none notifier.waiter) Misuse) _ (λ v.
      pends_so (task.Join t n) (not notifier.notified) _ refl (k.object n _ w there tt s))))

  parks_moves : (has_token : Bool) (w : World D) → R w → Answers (Within R) (parks_unless has_token w)
  parks_moves true w s = k.changed (with_token false) w.active w (λ thread. record { shut = λ e. e; own = refl; same = refl }) s
  parks_moves false w s = k.turned (resting Parked task.Continue) w (λ thread. record { shut = λ e. e; own = refl; idle = refl }) s

  unparks_moves : (t : ℕ) (w : World D) → R w → Answers (Within R) (unparks t w)
  unparks_moves t w s = onward (found (slice_get w.threads t) Misuse) _ (λ thread. k.changed unparked t w (λ thread. unparked_same thread.state thread) s)

  pub thread_moves : (todo : ThreadOp D ⊤) (w : World D) → ((value : D) → Answers (Within R) (finish value w)) → R w → Answers (Within R) (thread_begins todo w)
  thread_moves (thread_op.Spawn body name) w f s = spawn_moves name w s
  thread_moves (thread_op.Join t n) w f s = join_begins_moves t n w s
  thread_moves thread_op.Current w f s = onward (active_thread w) _ (λ thread. s)
  thread_moves thread_op.Park w f s = onward (active_thread w) _ (λ thread. parks_moves thread.has_token w s)
  thread_moves (thread_op.Unpark t) w f s = from_there (unparks t w) _ (unparks_moves t w s) (λ given r. k.points _ _ r)
  thread_moves thread_op.Yield w f s = from_there (yields task.Continue w) _ (yields_so task.Continue w refl s) (λ yielded r. r)
  thread_moves (thread_op.Finish value) w f s = f value
  thread_moves thread_op.Exit w f s =
      onward (active_thread w) _ (λ thread. onward (check (is_finished thread.phase) Misuse) _ (λ u.
      k.changed without_locals w.active _ (λ thread. record { shut = λ e. e; own = refl; same = refl })
      (k.changed (at_phase Exited) w.active w (λ thread. record { shut = λ e. absurd (cc e); own = refl; same = refl }) s)))
  thread_moves thread_op.End w f s =
      onward (active_thread w) _ (λ thread. onward (check (is_exited thread.phase) Misuse) _ (λ u.
      k.changed (in_state Ended) w.active _ (λ thread. record { shut = λ e. e; own = refl; same = refl })
      (k.changed (at_phase Over) w.active w (λ thread. record { shut = λ e. absurd (cc e); own = refl; same = refl }) s)))

  -- the result is taken out of a thread
  pub takes_result_moves : {A : Type 0} (t : ℕ) (w : World D) (next : D × World D → Result (A × World D) FailureKind) → R w
      → ((value : D) (threads : List (Thread D)) → R (record w { threads = threads }) → Answers (Within R) (next (value, record w { threads = threads }))) → Answers (Within R) (takes_result t w >>= next)
  takes_result_moves t w next s h = by_thread (slice_get w.threads t) refl
    where
      taken : Thread D → Thread D
      taken thread = record thread { result = None }

      by_result : (thread : Thread D) (result : Option D) → slice_get w.threads t ≡ Some thread
          → Answers (Within R) ((found result Misuse >>= (λ value. Ok (value, record w { threads = slice_set w.threads t (record thread { result = None }) }))) >>= next)
      by_result thread None e = tt
      by_result thread (Some value) e =
          h value _ (subst (λ o. R (record w { threads = changed_at taken t o w.threads })) e (k.changed taken t w (λ thread. record { shut = λ e. e; own = refl; same = refl }) s))

      by_thread : (o : Option (Thread D)) → slice_get w.threads t ≡ o
          → Answers (Within R) ((found o Misuse >>= (λ thread. found thread.result Misuse >>= (λ value. Ok (value, record w { threads = slice_set w.threads t (record thread { result = None }) })))) >>= next)
      by_thread None e = tt
      by_thread (Some thread) e = by_result thread thread.result e

  pub join_moves : (t n : ℕ) (w : World D) → R w → Answers (Within R) (join t n w)
  join_moves t n w s =
      away notify_in (λ c. tt) (slice_get w.objects n) _ (λ notifier there. onward (check notifier.notified Misuse) _ (λ u.
      takes_result_moves t w _ s (λ value threads r. k.points _ _ (k.object n _ _ there tt r))))

  pub child_finish_moves : (n : ℕ) (value : D) (w : World D) → R w → Answers (Within R) (child_finish n value w)
  child_finish_moves n value w s = from_there (notify n w) _ (notify_moves n w s) (λ after r. k.changed (having value) after.1.active after.1 (λ thread. record { shut = λ e. e; own = refl; same = refl }) r)

  -- ---- each operation, and each effect, but for those that the property says itself

  pub replied_so : (r : Result (Reply D × World D) FailureKind) → Answers (Within R) r → Answers (Within R) (r >>= replied)
  replied_so (Ok answered) s = s
  replied_so (Err kind) s = tt

  pub passed_so : (r : Result (Passed D × World D) FailureKind) → Answers (Within R) r → Answers (Within R) (r >>= gone)
  passed_so (Ok answered) s = s
  passed_so (Err kind) s = tt

  pub accesses_moves : (access : AtomicOp) (w : World D) → R w → Answers (Within R) (accesses access w)
  accesses_moves (atomic_op.Store n value order) w s = replied_so _ (store_moves n value order w s)
  accesses_moves (atomic_op.Load n order) w s = opens_moves n (reader.Load order) (atomic_op.Load n order) w s
  accesses_moves (atomic_op.Update n change order) w s = opens_moves n reader.Update (atomic_op.Update n change order) w s
  accesses_moves (atomic_op.CompareExchange n exchange) w s = opens_moves n reader.Update (atomic_op.CompareExchange n exchange) w s
  accesses_moves (atomic_op.CompareAndSwap n expected new order) w s = opens_moves n reader.Update (atomic_op.CompareAndSwap n expected new order) w s
  accesses_moves (atomic_op.New numbers value) w s = tt
  accesses_moves (atomic_op.UnsyncLoad n) w s = tt
  accesses_moves (atomic_op.IntoInner n) w s = tt
  accesses_moves (atomic_op.WithMut n) w s = tt
  accesses_moves (atomic_op.WithMutEnd n value) w s = tt
