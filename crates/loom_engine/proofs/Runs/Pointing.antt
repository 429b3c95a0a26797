-- What each rule does to the points of a run: moves, one after another. So a property of points that moves keep is kept by every
-- rule.
use Rattle.std.proofs.Common.{◌≡◌, ℕ, Bool, true, false, List, [], ◌∷◌, ◌++◌, length, Option, Some, None, refl}
use Rattle.std.specs.Prelude.{◌==◌, ◌&&◌, is_none, is_some, nat_lt, not, slice_get, slice_index, Result, Ok, Err, ⊤}
use Rattle.std.specs.declared.sync.atomic.Ordering.{Ordering}
use Rattle.std.specs.declared.sync.atomic.Ordering.TheVariants.{Release, AcqRel}
use Rattle.loom_views.specs.Changes.{changed as changed_number, fit}
use Rattle.loom_views.specs.Limits.{highest_count}
use Rattle.loom_views.specs.Atomic.Slots.{slot_set}
use Rattle.loom_views.specs.Laws.Moves.{Moves, acquire, release, join as joins, yielding, spawn, fence as fences, new_point, new_stamp, stamp, release_to_stamp, acquire_from_stamp, new_atomic, load, store as stores, update, update_fail, unsync_load, with_mut, with_mut_end, new_cell, begin_read, end_read, begin_write, end_write}
use Rattle.loom_views.specs.Views.{Accessed, Points, points_after_acquire, points_after_load, points_after_raise, points_after_read, points_after_release, points_after_spawn, points_after_store, points_after_unsync_load, points_after_update_read, points_after_update_write, points_after_with_mut, points_after_with_mut_end, points_after_write, readable_slots_of}
use Rattle.loom_views.specs.declared.rt.atomic.reader.Reader.{Reader}
use Rattle.loom_views.specs.declared.rt.atomic.reader.Reader.TheVariants as reader
use Rattle.loom_views.specs.declared.rt.failure.FailureKind.{FailureKind}
use Rattle.loom_views.specs.declared.rt.failure.FailureKind.TheVariants.{KeyTaken, LazyShutdown, Misuse, OpenAccess, RelaxedFence, SecondWaiter, TooManySteps, TooManyThreads}
use Rattle.loom_objects.specs.declared.operation.ArcOp.{ArcOp}
use Rattle.loom_objects.specs.declared.operation.ArcOp.TheVariants as arc_op
use Rattle.loom_objects.specs.declared.operation.AtomicOp.{AtomicOp}
use Rattle.loom_objects.specs.declared.operation.AtomicOp.TheVariants as atomic_op
use Rattle.loom_objects.specs.declared.operation.AtomicWakerOp.{AtomicWakerOp}
use Rattle.loom_objects.specs.declared.operation.AtomicWakerOp.TheVariants as place_op
use Rattle.loom_objects.specs.declared.operation.CellOp.{CellOp}
use Rattle.loom_objects.specs.declared.operation.CellOp.TheVariants as cell_op
use Rattle.loom_objects.specs.declared.operation.ChannelOp.{ChannelOp}
use Rattle.loom_objects.specs.declared.operation.ChannelOp.TheVariants as channel_op
use Rattle.loom_objects.specs.declared.operation.CondvarOp.{CondvarOp}
use Rattle.loom_objects.specs.declared.operation.CondvarOp.TheVariants as condvar_op
use Rattle.loom_objects.specs.declared.operation.Exchange.{Exchange}
use Rattle.loom_objects.specs.declared.operation.Keyed.{Keyed}
use Rattle.loom_objects.specs.declared.operation.Lazy.{Lazy}
use Rattle.loom_objects.specs.declared.operation.LazyOp.{LazyOp}
use Rattle.loom_objects.specs.declared.operation.LazyOp.TheVariants as lazy_op
use Rattle.loom_objects.specs.declared.operation.LocalOp.{LocalOp}
use Rattle.loom_objects.specs.declared.operation.LocalOp.TheVariants as local_op
use Rattle.loom_objects.specs.declared.operation.Message.{Message}
use Rattle.loom_objects.specs.declared.operation.MutexOp.{MutexOp}
use Rattle.loom_objects.specs.declared.operation.MutexOp.TheVariants as mutex_op
use Rattle.loom_objects.specs.declared.operation.NotifyOp.{NotifyOp}
use Rattle.loom_objects.specs.declared.operation.NotifyOp.TheVariants as notify_op
use Rattle.loom_objects.specs.declared.operation.Reply.{Reply}
use Rattle.loom_objects.specs.declared.operation.Request.{Request}
use Rattle.loom_objects.specs.declared.operation.Request.TheVariants as op
use Rattle.loom_objects.specs.declared.operation.RwLockOp.{RwLockOp}
use Rattle.loom_objects.specs.declared.operation.RwLockOp.TheVariants as lock_op
use Rattle.loom_objects.specs.declared.operation.ThreadOp.{ThreadOp}
use Rattle.loom_objects.specs.declared.operation.ThreadOp.TheVariants as thread_op
use Rattle.loom_objects.specs.declared.operation.TrackOp.{TrackOp}
use Rattle.loom_objects.specs.declared.operation.TrackOp.TheVariants as track_op
use Rattle.loom_objects.specs.declared.operation.WakerOp.{WakerOp}
use Rattle.loom_objects.specs.declared.operation.WakerOp.TheVariants as waker_op
use Rattle.loom_objects.specs.declared.rt.atomic_waker.AtomicWaker.{AtomicWaker}
use Rattle.loom_objects.specs.declared.rt.mpsc.Channel.{Channel}
use Rattle.loom_objects.specs.declared.rt.notify.Notify.{Notify}
use Rattle.loom_objects.specs.declared.rt.notify.Spurious.TheVariants.{Waking as RousedBy}
use Rattle.loom_objects.specs.declared.rt.run.Entry.{Entry}
use Rattle.loom_objects.specs.declared.rt.run.Passed.{Passed}
use Rattle.loom_objects.specs.declared.rt.run.Passed.TheVariants as passed
use Rattle.loom_objects.specs.declared.rt.run.Resumed.{Resumed}
use Rattle.loom_objects.specs.declared.rt.run.Resumed.TheVariants as resumed
use Rattle.loom_objects.specs.declared.rt.rwlock.RwLock.{RwLock}
use Rattle.loom_objects.specs.declared.rt.waker.Wakers.{Wakers}
use Rattle.loom_objects.specs.declared.rt.thread.AfterDrop.{AfterDrop}
use Rattle.loom_objects.specs.declared.rt.thread.AfterDrop.TheVariants as dropped
use Rattle.loom_objects.specs.declared.rt.thread.AfterWake.{AfterWake}
use Rattle.loom_objects.specs.declared.rt.thread.AfterWake.TheVariants as woken
use Rattle.loom_objects.specs.declared.rt.thread.Claim.{Claim}
use Rattle.loom_objects.specs.declared.rt.thread.Claim.TheVariants.{Read, TryRead, Write, TryWrite}
use Rattle.loom_objects.specs.declared.rt.thread.Counting.{Counting}
use Rattle.loom_objects.specs.declared.rt.thread.Counting.TheVariants as counting
use Rattle.loom_objects.specs.declared.rt.thread.Locking.{Locking}
use Rattle.loom_objects.specs.declared.rt.thread.Locking.TheVariants.{Timed, Untimed}
use Rattle.loom_objects.specs.declared.rt.thread.Receiving.{Receiving}
use Rattle.loom_objects.specs.declared.rt.thread.Taking.{Taking}
use Rattle.loom_objects.specs.declared.rt.thread.Taking.TheVariants as taking
use Rattle.loom_objects.specs.declared.rt.thread.Task.{Task}
use Rattle.loom_objects.specs.declared.rt.thread.Task.TheVariants as task
use Rattle.loom_objects.specs.declared.rt.thread.Waking.{Waking}
use Rattle.loom_objects.specs.Lent.{value_in}
use Rattle.loom_objects.specs.Operation.Accessed.{accessed}
use Rattle.loom_objects.specs.Rules.Alloc.{track_begins, track_take}
use Rattle.loom_objects.specs.Rules.Arc.{arc_begins, comes_to, counts, decrements, drops_last, is_free as is_free_arc, may_grow, sole_value, tries_unwrap, unwraps_if}
use Rattle.loom_objects.specs.Rules.Atomic.{access_begins, accesses, atomic_begins, exchanges, exchanges_if, fence, is_relaxed, opens, reads, some_slot, store, swap_of}
use Rattle.loom_objects.specs.Rules.Cell.{cell_begins, data_left, exchanges_cells, is_free, is_unread, opens_write, reads_open, swap_if}
use Rattle.loom_objects.specs.Rules.Condvar.{condvar_begins, falls_asleep, wait_begins, wakes, with_waiters, woken_by}
use Rattle.loom_objects.specs.Rules.Ending.{end_of}
use Rattle.loom_objects.specs.Rules.Leaks.{check_leak, first_leak, is_none_left}
use Rattle.loom_objects.specs.Rules.Locals.{are_open, is_taken, is_working, lazy_at, lazy_begins, local_at, local_begins, local_or, makes_lazy, none_there, puts_local, reads_lazy, reads_local}
use Rattle.loom_objects.specs.Rules.Moves.{a_cell, a_condvar, a_mutex, a_notify, a_rwlock, a_track, a_wakers, active_thread, an_arc, an_atomic, an_atomic_waker, acquires, is_number, joined_points, rouses, rouses_all, some_wakers, takes_result, unparks, wakes_if, with_points, yields}
use Rattle.loom_objects.specs.Rules.Mpsc.{by_receiver, by_sender, channel_begins, delivers, drains, drains_from, drains_if, drains_on, first_of, fits_behind, receives, receives_from, sends, takes as takes_message, tries_recv, blocks_if}
use Rattle.loom_objects.specs.Rules.Mutex.{free_value, frees, lock, locks_unless, mutex_begins, try_lock}
use Rattle.loom_objects.specs.Rules.Notify.{awaits, comes_to_wait, enters_wait, has_waker, is_alone, is_for_waits, may_be_spurious, notifies, notify, notify_begins, wait_begins as notifier_wait_begins, waits_or_rouses, wakes_early, with_notify}
use Rattle.loom_objects.specs.Rules.Replied.{gone, replied}
use Rattle.loom_objects.specs.Rules.Rule.{◌>>=◌, check, found}
use Rattle.loom_objects.specs.Rules.RwLock.{claim_begins, claims, guards_of, is_refused, is_unread as is_unread_lock, reads_lock, rwlock_begins, takes_unless, unlocked_value, with_one_fewer, writes_lock}
use Rattle.loom_objects.specs.Rules.Thread.{child_finish, finish_as, has_own, is_exited, is_finished, join, parks_unless, thread_begins, if_other}
use Rattle.loom_objects.specs.Rules.Waker.{acquires_if, after_clone, after_drop, after_wake, atomic_waker_begins, clones_waker, drops_waker, frees_place, has_taken, holds_place, registers, registers_if, take_begins, takes_place, takes_waker, wake_begins as wake_by_begins, waker_begins, waker_pends, wakes_by}
use Rattle.loom_objects.specs.World.{World, MAX_THREADS}
use Rattle.loom_engine.proofs.Runs.Answering.{Answers, answers_then}
use Rattle.loom_engine.proofs.Runs.Lifting.{PassedTo, ReplyTo}
pub use Rattle.loom_engine.proofs.Runs.Allowed.{Does, Fencing, MayBy, Reading, Storing, answered, by_points}

-- A property of points that moves keep which may be made.
module _ (D : Type 0) (P : Points → Type 0) (May : Does → Type 0) (step : (p q : Points) (move : Moves p q) → MayBy May move → P p → P q) where
  abbrev pub At : World D → Type 0
  At w = P w.points

  abbrev pub In : {A : Type 0} → A × World D → Type 0
  In answered = P answered.1.points

  pub onward : {A B : Type 0} (r : Result B FailureKind) (next : B → Result (A × World D) FailureKind) → ((b : B) → Answers In (next b)) → Answers In (r >>= next)
  onward r next h = answers_then In r next h

  pub from_there : {A B : Type 0} (r : Result (B × World D) FailureKind) (next : B × World D → Result (A × World D) FailureKind) → Answers In r
      → ((there : B × World D) → P there.1.points → Answers In (next there)) → Answers In (r >>= next)
  from_there (Ok there) next s h = h there s
  from_there (Err kind) next s h = tt

  by_accessed : {A : Type 0} (v : World D) (r : Result Accessed FailureKind) (next : World D → Result (A × World D) FailureKind) → ((a : Accessed) → r ≡ Ok a → Answers In (next (with_points a.points v)))
      → Answers In ((r >>= (λ a. Ok (with_points a.points v))) >>= next)
  by_accessed v (Ok a) next h = h a refl
  by_accessed v (Err kind) next h = tt

  -- ---- moves

  pub acquired : (p : Points) (t n : ℕ) → P p → P (points_after_acquire p t n)
  acquired p t n s = step p _ (acquire t n) tt s

  pub released : (p : Points) (t n : ℕ) → P p → P (points_after_release p t n Release)
  released p t n s = step p _ (release t n Release) tt s

  pub joined : (p : Points) (t : Option ℕ) (active : ℕ) → P p → P (joined_points t active p)
  joined p None active s = s
  joined p (Some t) active s = step p _ (joins t active) tt s

  yielded_so : (todo : Task D) (w : World D) → P w.points → Answers In (yields todo w)
  yielded_so todo w s =
      onward (active_thread w) _ (λ thread. onward (check (nat_lt (slice_index w.yields w.active) highest_count) TooManySteps) _ (λ u. step w.points _ (yielding w.active) tt s))

  -- ---- atomics

  access_points : (access : AtomicOp) (w : World D) → P w.points → Answers In (access_begins access w)
  access_points access w s = onward (found (accessed access) Misuse) _ (λ n. onward (an_atomic n w) _ (λ atomic. s))

  -- an operation that makes a store at once may do so
  abbrev pub MayMake : AtomicOp → Type 0
  MayMake (atomic_op.New numbers value) = May Storing
  MayMake (atomic_op.WithMutEnd n value) = May Storing
  MayMake _ = Unit {0}

  pub atomic_points : (todo : AtomicOp) (w : World D) → MayMake todo → P w.points → Answers In (atomic_begins todo w)
  atomic_points (atomic_op.New numbers value) w m s = step w.points _ (new_atomic w.active (fit numbers value)) m s
  atomic_points (atomic_op.UnsyncLoad n) w m s =
      onward (an_atomic n w) _ (λ atomic. answered In (points_after_unsync_load w.points w.active n) _ (λ read e. step w.points _ (unsync_load w.active n read e) tt s))
  atomic_points (atomic_op.IntoInner n) w m s =
      onward (an_atomic n w) _ (λ atomic. answered In (points_after_unsync_load w.points w.active n) _ (λ read e. step w.points _ (unsync_load w.active n read e) tt s))
  atomic_points (atomic_op.WithMut n) w m s =
      onward (an_atomic n w) _ (λ atomic. answered In (points_after_with_mut w.points w.active n) _ (λ read e. step w.points _ (with_mut w.active n read e) tt s))
  atomic_points (atomic_op.WithMutEnd n value) w m s =
      onward (an_atomic n w) _ (λ atomic. onward (check (is_number atomic.opened w.active) Misuse) _ (λ u.
      answered In (points_after_with_mut_end w.points w.active n (fit atomic.numbers value)) _ (λ stored e. step w.points _ (with_mut_end w.active n (fit atomic.numbers value) stored e) m s)))
  atomic_points (atomic_op.Load n order) w m s = access_points (atomic_op.Load n order) w s
  atomic_points (atomic_op.Store n value order) w m s = access_points (atomic_op.Store n value order) w s
  atomic_points (atomic_op.Update n change order) w m s = access_points (atomic_op.Update n change order) w s
  atomic_points (atomic_op.CompareExchange n exchange) w m s = access_points (atomic_op.CompareExchange n exchange) w s
  atomic_points (atomic_op.CompareAndSwap n expected new order) w m s = access_points (atomic_op.CompareAndSwap n expected new order) w s

  pub fence_points : (order : Ordering) (w : World D) → May (Fencing order) → P w.points → Answers In (fence order w)
  fence_points order w allowed s =
      by_points In w (points_after_raise w.points w.active) _ (λ raised e. onward (check (not (is_relaxed order)) RelaxedFence) _ (λ u. step w.points _ (fences w.active order raised e) allowed s))

  store_points : (n value : ℕ) (order : Ordering) (w : World D) → May Storing → P w.points → Answers In (store n value order w)
  store_points n value order w m s =
      by_points In w (points_after_raise w.points w.active) _ (λ raised e. onward (an_atomic n (with_points raised w)) _ (λ atomic.
      answered In (points_after_store raised w.active n (fit atomic.numbers value) order) _ (λ stored f. step w.points _ (stores w.active n (fit atomic.numbers value) order raised stored e f) m s)))

  -- an access that reads, from where its thread has raised
  module _ (w : World D) (raised : Points) (e : points_after_raise w.points w.active ≡ Ok raised) (m : May Storing) (s : P w.points) where
    exchanges_if_points : (is_expected : Bool) (n new : ℕ) (exchange : Exchange) (slot value : ℕ) (read : Accessed) → May (Reading raised w.active n reader.Update slot) → points_after_update_read raised w.active n slot ≡ Ok read
        → Answers In (exchanges_if is_expected n new exchange slot value (with_points read.points w))
    exchanges_if_points true n new exchange slot value read z f =
        by_accessed (with_points read.points w) (points_after_update_write read.points w.active n slot new exchange.success) _ (λ written g.
        step w.points _ (update w.active n slot new exchange.success raised read written e f g) (m, z) s)
    exchanges_if_points false n new exchange slot value read z f = step w.points _ (update_fail w.active n slot exchange.failure raised read e f) z s

    exchanges_points : (n : ℕ) (exchange : Exchange) (slot : ℕ) → May (Reading raised w.active n reader.Update slot) → Answers In (exchanges n exchange slot (with_points raised w))
    exchanges_points n exchange slot z =
        onward (an_atomic n (with_points raised w)) _ (λ atomic. answered In (points_after_update_read raised w.active n slot) _ (λ read f.
        exchanges_if_points (read.value == fit atomic.numbers exchange.expected) n (fit atomic.numbers exchange.new) exchange slot read.value read z f))

    -- the access may read the slot
    abbrev MaySlot : AtomicOp → ℕ → Type 0
    MaySlot (atomic_op.Load n order) slot = May (Reading raised w.active n (reader.Load order) slot)
    MaySlot (atomic_op.Update n change order) slot = May (Reading raised w.active n reader.Update slot)
    MaySlot (atomic_op.CompareExchange n exchange) slot = May (Reading raised w.active n reader.Update slot)
    MaySlot (atomic_op.CompareAndSwap n expected new order) slot = May (Reading raised w.active n reader.Update slot)
    MaySlot _ slot = Unit {0}

    reads_points : (access : AtomicOp) (slot : ℕ) → MaySlot access slot → Answers In (reads access (with_points raised w) slot)
    reads_points (atomic_op.Load n order) slot z = answered In (points_after_load raised w.active n slot order) _ (λ loaded f. step w.points _ (load w.active n slot order raised loaded e f) z s)
    reads_points (atomic_op.Update n change order) slot z =
        onward (an_atomic n (with_points raised w)) _ (λ atomic. answered In (points_after_update_read raised w.active n slot) _ (λ read f.
        let value = fit atomic.numbers (changed_number atomic.numbers change read.value) in
        by_accessed (with_points read.points w) (points_after_update_write read.points w.active n slot value order) _ (λ written g. step w.points _ (update w.active n slot value order raised read written e f g) (m, z) s)))
    reads_points (atomic_op.CompareExchange n exchange) slot z = from_there (exchanges n exchange slot (with_points raised w)) _ (exchanges_points n exchange slot z) (λ there r. r)
    reads_points (atomic_op.CompareAndSwap n expected new order) slot z =
        from_there (exchanges n (swap_of expected new order) slot (with_points raised w)) _ (exchanges_points n (swap_of expected new order) slot z) (λ there r. r)
    reads_points (atomic_op.New numbers value) slot z = tt
    reads_points (atomic_op.Store n value order) slot z = tt
    reads_points (atomic_op.UnsyncLoad n) slot z = tt
    reads_points (atomic_op.IntoInner n) slot z = tt
    reads_points (atomic_op.WithMut n) slot z = tt
    reads_points (atomic_op.WithMutEnd n value) slot z = tt

  -- ---- cells

  opens_write_points : (n : ℕ) (w : World D) → P w.points → Answers In (opens_write n w)
  opens_write_points n w s =
      onward (a_cell n w) _ (λ cell. by_points In w (points_after_raise w.points w.active) _ (λ raised e. onward (check (is_free cell) OpenAccess) _ (λ u.
      by_points In (with_points raised w) (points_after_write raised w.active n) _ (λ written f. step w.points _ (begin_write w.active n raised written e f) tt s))))

  exchanges_cells_points : (n m : ℕ) (w : World D) → P w.points → Answers In (exchanges_cells n m w)
  exchanges_cells_points n m w s =
      onward (a_cell n w) _ (λ one. onward (a_cell m w) _ (λ other. onward (found (value_in one.content) Misuse) _ (λ of_one. onward (found (value_in other.content) Misuse) _ (λ of_other.
      by_points In w (points_after_write w.points w.active m) _ (λ written e. by_points In (with_points written w) (points_after_write written w.active n) _ (λ ended f.
      step written _ (end_write w.active n ended f) tt (step w.points _ (end_write w.active m written e) tt s)))))))

  swap_points : (is_same : Bool) (n m : ℕ) (w : World D) → P w.points → Answers In (swap_if is_same n m w)
  swap_points true n m w s = s
  swap_points false n m w s =
      from_there (opens_write n w) _ (opens_write_points n w s) (λ opened r. from_there (opens_write m opened.1) _ (opens_write_points m opened.1 r) (λ both z. exchanges_cells_points n m both.1 z))

  pub cell_points : (todo : CellOp D) (w : World D) → P w.points → Answers In (cell_begins todo w)
  cell_points (cell_op.New value) w s = step w.points _ (new_cell w.active) tt s
  cell_points (cell_op.Read n) w s =
      onward (a_cell n w) _ (λ cell. by_points In w (points_after_raise w.points w.active) _ (λ raised e. onward (check (is_none cell.content.lent) OpenAccess) _ (λ u.
      by_points In (with_points raised w) (points_after_read raised w.active n) _ (λ read f. onward (found (value_in cell.content) Misuse) _ (λ value.
      onward (check (nat_lt (reads_open w.active cell) highest_count) TooManySteps) _ (λ v. step w.points _ (begin_read w.active n raised read e f) tt s))))))
  cell_points (cell_op.ReadEnd n) w s =
      onward (a_cell n w) _ (λ cell. onward (check (nat_lt 0 (reads_open w.active cell)) Misuse) _ (λ u. onward (check (is_none cell.content.lent) OpenAccess) _ (λ v.
      by_points In w (points_after_read w.points w.active n) _ (λ read e. step w.points _ (end_read w.active n read e) tt s))))
  cell_points (cell_op.Deref n) w s = onward (a_cell n w) _ (λ cell. onward (check (nat_lt 0 (reads_open w.active cell)) Misuse) _ (λ u. onward (found (value_in cell.content) Misuse) _ (λ value. s)))
  cell_points (cell_op.Write n) w s =
      onward (a_cell n w) _ (λ cell. by_points In w (points_after_raise w.points w.active) _ (λ raised e. onward (check (is_free cell) OpenAccess) _ (λ u.
      by_points In (with_points raised w) (points_after_write raised w.active n) _ (λ written f. onward (found (value_in cell.content) Misuse) _ (λ value. step w.points _ (begin_write w.active n raised written e f) tt s)))))
  cell_points (cell_op.WriteEnd n value) w s =
      onward (a_cell n w) _ (λ cell. onward (check (is_number cell.content.lent w.active) Misuse) _ (λ u. onward (check (is_unread cell) OpenAccess) _ (λ v.
      by_points In w (points_after_write w.points w.active n) _ (λ written e. step w.points _ (end_write w.active n written e) tt s))))
  cell_points (cell_op.IntoInner n) w s = onward (a_cell n w) _ (λ cell. onward (data_left cell) _ (λ value. s))
  cell_points (cell_op.Get n) w s =
      onward (a_cell n w) _ (λ cell. by_points In w (points_after_raise w.points w.active) _ (λ raised e. onward (check (is_none cell.content.lent) OpenAccess) _ (λ u.
      by_points In (with_points raised w) (points_after_read raised w.active n) _ (λ read f. onward (found (value_in cell.content) Misuse) _ (λ value.
      by_points In (with_points read w) (points_after_read read w.active n) _ (λ ended g. step read _ (end_read w.active n ended g) tt (step w.points _ (begin_read w.active n raised read e f) tt s)))))))
  cell_points (cell_op.Replace n new) w s =
      onward (a_cell n w) _ (λ cell. by_points In w (points_after_raise w.points w.active) _ (λ raised e. onward (check (is_free cell) OpenAccess) _ (λ u.
      by_points In (with_points raised w) (points_after_write raised w.active n) _ (λ written f. onward (found (value_in cell.content) Misuse) _ (λ value.
      by_points In (with_points written w) (points_after_write written w.active n) _ (λ ended g. step written _ (end_write w.active n ended g) tt (step w.points _ (begin_write w.active n raised written e f) tt s)))))))
  cell_points (cell_op.Swap n m) w s = onward (a_cell n w) _ (λ one. onward (a_cell m w) _ (λ other. swap_points (n == m) n m w s))

  -- ---- counted references and tracked values

  comes_to_points : (todo : Task D) (n : ℕ) (w : World D) → P w.points → Answers In (comes_to todo n w)
  comes_to_points todo n w s = onward (an_arc n w) _ (λ arc. onward (check (nat_lt 0 arc.count) Misuse) _ (λ u. s))

  pub arc_points : (todo : ArcOp D) (w : World D) → P w.points → Answers In (arc_begins todo w)
  arc_points (arc_op.New value) w s = step w.points _ new_point tt s
  arc_points (arc_op.Get n) w s = onward (an_arc n w) _ (λ arc. onward (check (is_free_arc arc) Misuse) _ (λ u. onward (found (value_in arc.content) Misuse) _ (λ value. s)))
  arc_points (arc_op.Put n value) w s = onward (an_arc n w) _ (λ arc. onward (check (is_number arc.content.lent w.active) Misuse) _ (λ u. s))
  arc_points (arc_op.Clone n) w s = comes_to_points _ n w s
  arc_points (arc_op.Drop n) w s = comes_to_points _ n w s
  arc_points (arc_op.GetMut n) w s = comes_to_points _ n w s
  arc_points (arc_op.StrongCount n) w s = comes_to_points _ n w s
  arc_points (arc_op.TryUnwrap n) w s = comes_to_points _ n w s

  drops_points : (value : Option D) (n : ℕ) (w : World D) → P w.points → Answers In (drops_last value n w)
  drops_points None n w s = s
  drops_points (Some value) n w s = acquired w.points w.active n s

  decrements_points : (n : ℕ) (w : World D) → P w.points → Answers In (decrements n w)
  decrements_points n w s = onward (an_arc n w) _ (λ arc. onward (sole_value arc) _ (λ value. drops_points value n _ (released w.points w.active n s)))

  pub counts_points : (todo : Counting) (n : ℕ) (w : World D) → P w.points → Answers In (counts todo n w)
  counts_points counting.Clone n w s = onward (an_arc n w) _ (λ arc. onward (may_grow arc) _ (λ u. s))
  counts_points counting.Drop n w s = decrements_points n w s
  counts_points counting.GetMut n w s = onward (an_arc n w) _ (λ arc. onward (sole_value arc) _ (λ value. acquired w.points w.active n s))
  counts_points counting.Unwrap n w s = onward (an_arc n w) _ (λ arc. onward (check (arc.count == 1) Misuse) _ (λ u. decrements_points n w s))
  counts_points counting.StrongCount n w s = onward (an_arc n w) _ (λ arc. onward (check (is_free_arc arc) Misuse) _ (λ u. acquired w.points w.active n s))

  unwraps_points : (may_be : Bool) (n : ℕ) (w : World D) → P w.points → Answers In (unwraps_if may_be n w)
  unwraps_points false n w s = s
  unwraps_points true n w s = s

  pub tries_unwrap_points : (n : ℕ) (w : World D) → P w.points → Answers In (tries_unwrap n w)
  tries_unwrap_points n w s =
      onward (an_arc n w) _ (λ arc. onward (check (is_free_arc arc) Misuse) _ (λ u. unwraps_points (arc.count == 1) n (acquires n w) (acquired w.points w.active n s)))

  take_points : (n : ℕ) (w : World D) → P w.points → Answers In (track_take n w)
  take_points n w s = onward (a_track n w) _ (λ track. onward (found (value_in track.content) Misuse) _ (λ value. s))

  pub track_points : (todo : TrackOp D) (w : World D) → P w.points → Answers In (track_begins todo w)
  track_points (track_op.New value) w s = step w.points _ new_point tt s
  track_points (track_op.GetRef n) w s = onward (a_track n w) _ (λ track. onward (found (value_in track.content) Misuse) _ (λ value. s))
  track_points (track_op.GetMut n) w s = onward (a_track n w) _ (λ track. onward (found (value_in track.content) Misuse) _ (λ value. s))
  track_points (track_op.Put n value) w s = onward (a_track n w) _ (λ track. onward (check (is_number track.content.lent w.active) Misuse) _ (λ u. s))
  track_points (track_op.IntoInner n) w s = take_points n w s
  track_points (track_op.Drop n) w s = take_points n w s

  -- ---- locks

  pub lock_points : (locking : Locking) (n : ℕ) (w : World D) → P w.points → Answers In (lock locking n w)
  lock_points locking n w s = onward (a_mutex n w) _ (λ mutex. onward (found (free_value mutex) Misuse) _ (λ value. acquired w.points w.active n s))

  locks_unless_points : (is_held : Bool) (n : ℕ) (w : World D) → P w.points → Answers In (locks_unless is_held n w)
  locks_unless_points true n w s = s
  locks_unless_points false n w s = lock_points Untimed n w s

  pub try_lock_points : (n : ℕ) (w : World D) → P w.points → Answers In (try_lock n w)
  try_lock_points n w s = onward (a_mutex n w) _ (λ mutex. onward (check (is_none mutex.content.lent) Misuse) _ (λ u. locks_unless_points (is_some mutex.holder) n w s))

  frees_points : (n : ℕ) (value : D) (w : World D) → P w.points → Answers In (frees n value w)
  frees_points n value w s = onward (a_mutex n w) _ (λ mutex. onward (check (is_number mutex.holder w.active) Misuse) _ (λ u. released w.points w.active n s))

  pub mutex_points : (todo : MutexOp D) (w : World D) → P w.points → Answers In (mutex_begins todo w)
  mutex_points (mutex_op.New value) w s = step w.points _ new_point tt s
  mutex_points (mutex_op.Lock n) w s = onward (a_mutex n w) _ (λ mutex. s)
  mutex_points (mutex_op.TryLock n) w s = onward (a_mutex n w) _ (λ mutex. s)
  mutex_points (mutex_op.Release n value) w s = from_there (frees n value w) _ (frees_points n value w s) (λ freed r. r)
  mutex_points (mutex_op.GetMut n) w s = onward (a_mutex n w) _ (λ mutex. onward (found (free_value mutex) Misuse) _ (λ value. s))
  mutex_points (mutex_op.Put n value) w s = onward (a_mutex n w) _ (λ mutex. onward (check (is_number mutex.content.lent w.active) Misuse) _ (λ u. s))
  mutex_points (mutex_op.IntoInner n) w s = onward (a_mutex n w) _ (λ mutex. onward (found (free_value mutex) Misuse) _ (λ value. s))

  claim_points : (claim : Claim) (n : ℕ) (w : World D) → P w.points → Answers In (claim_begins claim n w)
  claim_points claim n w s = onward (a_rwlock n w) _ (λ lock. s)

  wakes_if_points : (wakes : Bool) (n : ℕ) (w : World D) → P w.points → P (wakes_if wakes n w).points
  wakes_if_points true n w s = s
  wakes_if_points false n w s = s

  pub rwlock_points : (todo : RwLockOp D) (w : World D) → P w.points → Answers In (rwlock_begins todo w)
  rwlock_points (lock_op.New value) w s = step w.points _ new_point tt s
  rwlock_points (lock_op.Read n) w s = claim_points Read n w s
  rwlock_points (lock_op.TryRead n) w s = claim_points TryRead n w s
  rwlock_points (lock_op.Write n) w s = claim_points Write n w s
  rwlock_points (lock_op.TryWrite n) w s = claim_points TryWrite n w s
  rwlock_points (lock_op.ReadRelease n) w s =
      onward (a_rwlock n w) _ (λ lock. onward (check (nat_lt 0 (guards_of w.active lock)) Misuse) _ (λ u. wakes_if_points (is_unread_lock (with_one_fewer w.active lock)) n _ (released w.points w.active n s)))
  rwlock_points (lock_op.WriteRelease n value) w s = onward (a_rwlock n w) _ (λ lock. onward (check (is_number lock.writer w.active) Misuse) _ (λ u. released w.points w.active n s))
  rwlock_points (lock_op.GetMut n) w s = onward (a_rwlock n w) _ (λ lock. onward (found (unlocked_value lock) Misuse) _ (λ value. s))
  rwlock_points (lock_op.Put n value) w s = onward (a_rwlock n w) _ (λ lock. onward (check (is_number lock.content.lent w.active) Misuse) _ (λ u. s))
  rwlock_points (lock_op.IntoInner n) w s = onward (a_rwlock n w) _ (λ lock. onward (found (unlocked_value lock) Misuse) _ (λ value. s))

  reads_lock_points : (n : ℕ) (lock : RwLock D) (w : World D) → P w.points → Answers In (reads_lock n lock w)
  reads_lock_points n lock w s =
      onward (found (value_in lock.content) Misuse) _ (λ value. onward (check (nat_lt (guards_of w.active lock) highest_count) TooManySteps) _ (λ u. acquired w.points w.active n s))

  writes_lock_points : (n : ℕ) (lock : RwLock D) (w : World D) → P w.points → Answers In (writes_lock n lock w)
  writes_lock_points n lock w s = onward (found (value_in lock.content) Misuse) _ (λ value. acquired w.points w.active n s)

  takes_points : (refuses : Bool) (claim : Claim) (n : ℕ) (lock : RwLock D) (w : World D) → P w.points → Answers In (takes_unless refuses claim n lock w)
  takes_points true Read n lock w s = tt
  takes_points true TryRead n lock w s = s
  takes_points true Write n lock w s = tt
  takes_points true TryWrite n lock w s = s
  takes_points false Read n lock w s = reads_lock_points n lock w s
  takes_points false TryRead n lock w s = reads_lock_points n lock w s
  takes_points false Write n lock w s = writes_lock_points n lock w s
  takes_points false TryWrite n lock w s = writes_lock_points n lock w s

  pub claims_points : (claim : Claim) (n : ℕ) (w : World D) → P w.points → Answers In (claims claim n w)
  claims_points claim n w s = onward (a_rwlock n w) _ (λ lock. onward (check (is_none lock.content.lent) Misuse) _ (λ u. takes_points (is_refused claim lock) claim n lock w s))

  -- ---- condition variables and notifiers

  wait_points : (locking : Locking) (n m : ℕ) (value : D) (w : World D) → P w.points → Answers In (wait_begins locking n m value w)
  wait_points locking n m value w s = onward (a_condvar n w) _ (λ condvar. onward (a_mutex m w) _ (λ mutex. onward (check (is_number mutex.holder w.active) Misuse) _ (λ u. s)))

  pub condvar_points : (todo : CondvarOp D) (w : World D) → P w.points → Answers In (condvar_begins todo w)
  condvar_points condvar_op.New w s = step w.points _ new_point tt s
  condvar_points (condvar_op.Wait n m value) w s = wait_points Untimed n m value w s
  condvar_points (condvar_op.WaitTimeout n m value) w s = wait_points Timed n m value w s
  condvar_points (condvar_op.NotifyOne n) w s = onward (a_condvar n w) _ (λ condvar. s)
  condvar_points (condvar_op.NotifyAll n) w s = onward (a_condvar n w) _ (λ condvar. s)

  pub falls_asleep_points : (locking : Locking) (n m : ℕ) (value : D) (w : World D) → P w.points → Answers In (falls_asleep locking n m value w)
  falls_asleep_points locking n m value w s =
      onward (a_condvar n w) _ (λ condvar. onward (check (nat_lt (length condvar.waiters.items) MAX_THREADS) Misuse) _ (λ u.
      let queued = with_waiters n (condvar.waiters.items ++ w.active ∷ []) w in from_there (frees m value queued) _ (frees_points m value queued s) (λ freed r. r)))

  rouses_points : (threads : List ℕ) (w : World D) → P w.points → P (rouses_all threads w).points
  rouses_points [] w s = s
  rouses_points (t ∷ threads) w s = rouses_points threads (rouses t w) (joined w.points (Some t) w.active s)

  pub wakes_points : (waking : Waking) (n : ℕ) (w : World D) → P w.points → Answers In (wakes waking n w)
  wakes_points waking n w s = onward (a_condvar n w) _ (λ condvar. rouses_points (woken_by waking condvar.waiters.items) _ s)

  comes_to_wait_points : (may_be : Bool) (n : ℕ) (notifier : Notify) (w : World D) → P w.points → Answers In (comes_to_wait may_be n notifier w)
  comes_to_wait_points true n notifier w s = s
  comes_to_wait_points false n notifier w s = s

  notifier_wait_points : (n : ℕ) (w : World D) → P w.points → Answers In (notifier_wait_begins n w)
  notifier_wait_points n w s =
      onward (a_notify n w) _ (λ notifier. onward (check (is_for_waits notifier.spurious) Misuse) _ (λ u. onward (check (is_alone w.active notifier) SecondWaiter) _ (λ v.
      comes_to_wait_points (may_be_spurious notifier.spurious) n notifier w s)))

  pub notifier_points : (todo : NotifyOp) (w : World D) → P w.points → Answers In (notify_begins todo w)
  notifier_points notify_op.New w s = step w.points _ new_point tt s
  notifier_points (notify_op.Notify n) w s = onward (a_notify n w) _ (λ notifier. onward (check (is_for_waits notifier.spurious) Misuse) _ (λ u. s))
  notifier_points (notify_op.Wait n) w s = notifier_wait_points n w s

  waits_or_rouses_points : (is_spurious : Bool) (n : ℕ) (notifier : Notify) (w : World D) → P w.points → Answers In (waits_or_rouses is_spurious n notifier w)
  waits_or_rouses_points true n notifier w s = yielded_so (task.Rouse n) (with_notify n (record notifier { spurious = RousedBy w.active }) w) s
  waits_or_rouses_points false n notifier w s = s

  pub enters_wait_points : (is_spurious : Bool) (n : ℕ) (w : World D) → P w.points → Answers In (enters_wait is_spurious n w)
  enters_wait_points is_spurious n w s = onward (a_notify n w) _ (λ notifier. waits_or_rouses_points is_spurious n notifier w s)

  notify_points : (n : ℕ) (w : World D) → P w.points → Answers In (notify n w)
  notify_points n w s = onward (a_notify n w) _ (λ notifier. joined _ notifier.waiter w.active (released w.points w.active n s))

  pub notifies_points : (n : ℕ) (w : World D) → P w.points → Answers In (notifies n w)
  notifies_points n w s = from_there (notify n w) _ (notify_points n w s) (λ after r. r)

  pub awaits_points : (n : ℕ) (w : World D) → P w.points → Answers In (awaits n w)
  awaits_points n w s = onward (a_notify n w) _ (λ notifier. onward (has_waker notifier.wakers w) _ (λ v. onward (check notifier.notified Misuse) _ (λ u. acquired w.points w.active n s)))

  pub wakes_early_points : (n : ℕ) (w : World D) → P w.points → Answers In (wakes_early n w)
  wakes_early_points n w s = onward (a_notify n w) _ (λ notifier. onward (has_waker notifier.wakers w) _ (λ u. s))

  -- ---- channels

  tries_points : (is_empty : Bool) (n : ℕ) (w : World D) → P w.points → Answers In (tries_recv is_empty n w)
  tries_points true n w s = s
  tries_points false n w s = s

  drains_if_points : (is_some_left : Bool) (channel : Channel D) (n : ℕ) (w : World D) → P w.points → Answers In (drains_if is_some_left channel n w)
  drains_if_points true channel n w s = s
  drains_if_points false channel n w s = s

  pub channel_points : (todo : ChannelOp D) (w : World D) → P w.points → Answers In (channel_begins todo w)
  channel_points channel_op.New w s = step w.points _ new_point tt s
  channel_points (channel_op.Send n value) w s = onward (by_sender n w) _ (λ channel. step w.points _ new_stamp tt s)
  channel_points (channel_op.Recv n) w s = onward (by_receiver n w) _ (λ channel. s)
  channel_points (channel_op.TryRecv n) w s = onward (by_receiver n w) _ (λ channel. tries_points (is_none_left channel.messages) n w s)
  channel_points (channel_op.CloneSender n) w s = onward (by_sender n w) _ (λ channel. onward (check (nat_lt channel.senders highest_count) TooManySteps) _ (λ u. s))
  channel_points (channel_op.DropSender n) w s = onward (by_sender n w) _ (λ channel. wakes_if_points (channel.senders == 1) n _ s)
  channel_points (channel_op.DropReceiver n) w s = onward (by_receiver n w) _ (λ channel. drains_if_points (nat_lt 0 (length channel.messages)) channel n w s)

  delivers_points : (has_receiver : Bool) (channel : Channel D) (n : ℕ) (sent : List (Message D)) (message : Message D) (w : World D) → P w.points → Answers In (delivers has_receiver channel n sent message w)
  delivers_points false channel n sent message w s = onward (found (first_of message.value) Misuse) _ (λ value. s)
  delivers_points true channel n sent message w s =
      onward (check (fits_behind channel.messages sent) TooManySteps) _ (λ u.
      wakes_if_points (is_none_left channel.messages) n _ (step _ _ (stamp n message.stamp) tt (released w.points w.active n s)))

  pub sends_points : (n : ℕ) (sent : List (Message D)) (w : World D) → P w.points → Answers In (sends n sent w)
  sends_points n sent w s = onward (by_sender n w) _ (λ channel. onward (found (first_of sent) Misuse) _ (λ message. delivers_points channel.has_receiver channel n sent message w s))

  blocks_points : (blocks : Bool) (n : ℕ) (w : World D) → P w.points → P (blocks_if blocks n w).points
  blocks_points true n w s = s
  blocks_points false n w s = s

  takes_message_points : (n : ℕ) (channel : Channel D) (message : Message D) (rest : List (Message D)) (w : World D) → P w.points → P (takes_message n channel message rest w).points
  takes_message_points n channel message rest w s = blocks_points (is_none_left rest && nat_lt 0 channel.senders) n _ (step w.points _ (acquire_from_stamp w.active message.stamp) tt s)

  receives_from_points : (by : Receiving) (n : ℕ) (channel : Channel D) (messages : List (Message D)) (w : World D) → P w.points → Answers In (receives_from by n channel messages w)
  receives_from_points by n channel [] w s = s
  receives_from_points by n channel (message ∷ rest) w s = onward (found (first_of message.value) Misuse) _ (λ value. takes_message_points n channel message rest w s)

  pub receives_points : (by : Receiving) (n : ℕ) (w : World D) → P w.points → Answers In (receives by n w)
  receives_points by n w s = onward (by_receiver n w) _ (λ channel. receives_from_points by n channel channel.messages w s)

  drains_on_points : (is_last : Bool) (n : ℕ) (taken : List D) (w : World D) → P w.points → Answers In (drains_on is_last n taken w)
  drains_on_points true n taken w s = onward (by_receiver n w) _ (λ channel. s)
  drains_on_points false n taken w s = s

  drains_from_points : (n : ℕ) (taken : List D) (channel : Channel D) (messages : List (Message D)) (w : World D) → P w.points → Answers In (drains_from n taken channel messages w)
  drains_from_points n taken channel [] w s = drains_on_points true n taken w s
  drains_from_points n taken channel (message ∷ rest) w s =
      onward (check (fits_behind taken message.value) TooManySteps) _ (λ u. drains_on_points (is_none_left rest) n (taken ++ message.value) _ (takes_message_points n channel message rest w s))

  pub drains_points : (n : ℕ) (taken : List D) (w : World D) → P w.points → Answers In (drains n taken w)
  drains_points n taken w s = onward (by_receiver n w) _ (λ channel. drains_from_points n taken channel channel.messages w s)

  -- ---- wakers, and places for them

  waker_pends_points : (todo : Task D) (c : ℕ) (w : World D) → P w.points → Answers In (waker_pends todo c w)
  waker_pends_points todo c w s = onward (some_wakers c w) _ (λ wakers. s)

  wake_by_points : (after : AfterWake) (c : ℕ) (w : World D) → P w.points → Answers In (wake_by_begins after c w)
  wake_by_points after c w s = onward (some_wakers c w) _ (λ wakers. s)

  pub waker_points : (todo : WakerOp) (w : World D) → P w.points → Answers In (waker_begins todo w)
  waker_points waker_op.New w s = step _ _ new_point tt (step w.points _ new_point tt s)
  waker_points (waker_op.Wait c) w s = onward (some_wakers c w) _ (λ wakers. notifier_wait_points wakers.notifier w s)
  waker_points (waker_op.Finish c) w s = waker_pends_points (task.DropWaker c dropped.Done) c w s
  waker_points (waker_op.Clone c) w s = waker_pends_points (task.CloneWaker c None) c w s
  waker_points (waker_op.Wake c) w s = wake_by_points (woken.Drop dropped.Done) c w s
  waker_points (waker_op.WakeByRef c) w s = wake_by_points woken.Done c w s
  waker_points (waker_op.Drop c) w s = waker_pends_points (task.DropWaker c dropped.Done) c w s

  take_begins_points : (by : Taking) (p : ℕ) (w : World D) → P w.points → Answers In (take_begins by p w)
  take_begins_points by p w s = onward (an_atomic_waker p w) _ (λ place. s)

  pub place_points : (todo : AtomicWakerOp) (w : World D) → P w.points → Answers In (atomic_waker_begins todo w)
  place_points place_op.New w s = step w.points _ new_point tt s
  place_points (place_op.Register p c) w s = onward (an_atomic_waker p w) _ (λ place. waker_pends_points (task.Register p c) c w s)
  place_points (place_op.RegisterByRef p c) w s = onward (an_atomic_waker p w) _ (λ place. waker_pends_points (task.CloneWaker c (Some p)) c w s)
  place_points (place_op.Wake p) w s = take_begins_points taking.Wake p w s
  place_points (place_op.TakeWaker p) w s = take_begins_points taking.Answer p w s
  place_points (place_op.Drop p) w s = onward (an_atomic_waker p w) _ (λ place. s)

  holds_points : (p : ℕ) (place : AtomicWaker) (w : World D) → P w.points → P (holds_place p place w).points
  holds_points p place w s = acquired w.points w.active p s

  frees_place_points : (p : ℕ) (place : AtomicWaker) (w : World D) → P w.points → P (frees_place p place w).points
  frees_place_points p place w s = released w.points w.active p s

  after_wake_points : (after : AfterWake) (c : ℕ) (w : World D) → P w.points → Answers In (after_wake after c w)
  after_wake_points woken.Done c w s = s
  after_wake_points (woken.Drop after) c w s = s

  pub wakes_by_points : (n c : ℕ) (after : AfterWake) (w : World D) → P w.points → Answers In (wakes_by n c after w)
  wakes_by_points n c after w s = onward (some_wakers c w) _ (λ wakers. from_there (notify n w) _ (notify_points n w s) (λ notified r. after_wake_points after c notified.1 r))

  after_clone_points : (place : Option ℕ) (c : ℕ) (w : World D) → P w.points → Answers In (after_clone place c w)
  after_clone_points None c w s = s
  after_clone_points (Some p) c w s = s

  pub clones_waker_points : (c : ℕ) (place : Option ℕ) (w : World D) → P w.points → Answers In (clones_waker c place w)
  clones_waker_points c place w s = onward (some_wakers c w) _ (λ wakers. onward (check (nat_lt wakers.count highest_count) TooManySteps) _ (λ u. after_clone_points place c _ s))

  after_drop_points : (after : AfterDrop) (w : World D) → P w.points → Answers In (after_drop after w)
  after_drop_points dropped.Done w s = s
  after_drop_points dropped.Yield w s = from_there (yields task.Continue w) _ (yielded_so task.Continue w s) (λ yielded r. r)
  after_drop_points (dropped.Free p) w s = onward (an_atomic_waker p w) _ (λ place. frees_place_points p place w s)

  acquires_if_points : (is_last : Bool) (c : ℕ) (w : World D) → P w.points → P (acquires_if is_last c w).points
  acquires_if_points true c w s = acquired w.points w.active c s
  acquires_if_points false c w s = s

  pub drops_waker_points : (c : ℕ) (after : AfterDrop) (w : World D) → P w.points → Answers In (drops_waker c after w)
  drops_waker_points c after w s = onward (some_wakers c w) _ (λ wakers. after_drop_points after _ (acquires_if_points (wakers.count == 1) c _ (released w.points w.active c s)))

  takes_place_points : (p c : ℕ) (place : AtomicWaker) (old : Option ℕ) (w : World D) → P w.points → Answers In (takes_place p c place old w)
  takes_place_points p c place None w s = frees_place_points p (record place { waker = Some c }) (holds_place p place w) (holds_points p place w s)
  takes_place_points p c place (Some old) w s = holds_points p (record place { waker = Some c }) w s

  registers_if_points : (is_free : Bool) (p c : ℕ) (place : AtomicWaker) (wakers : Wakers) (w : World D) → P w.points → Answers In (registers_if is_free p c place wakers w)
  registers_if_points true p c place wakers w s = takes_place_points p c place place.waker w s
  registers_if_points false p c place wakers w s = s

  pub registers_points : (p c : ℕ) (w : World D) → P w.points → Answers In (registers p c w)
  registers_points p c w s = onward (an_atomic_waker p w) _ (λ place. onward (some_wakers c w) _ (λ wakers. registers_if_points (is_none place.holder) p c place wakers w s))

  has_taken_points : (by : Taking) (waker : Option ℕ) (w : World D) → P w.points → Answers In (has_taken by waker w)
  has_taken_points taking.Answer waker w s = s
  has_taken_points taking.Wake None w s = s
  has_taken_points taking.Wake (Some c) w s = onward (a_wakers c w) _ (λ wakers. s)

  pub takes_waker_points : (by : Taking) (p : ℕ) (w : World D) → P w.points → Answers In (takes_waker by p w)
  takes_waker_points by p w s =
      onward (an_atomic_waker p w) _ (λ place. onward (check (is_none place.holder) Misuse) _ (λ u.
      has_taken_points by place.waker _ (frees_place_points p (record place { waker = None }) (holds_place p place w) (holds_points p place w s))))

  -- ---- a thread's own values, and values that are made once

  none_there_points : (gone : Result (Entry D × World D) FailureKind) (was_there : Bool) (w : World D) → Answers In gone → P w.points → Answers In (none_there gone was_there w)
  none_there_points gone true w h s = h
  none_there_points gone false w h s = s

  reads_local_points : (gone : Result (Entry D × World D) FailureKind) (was_there : Bool) (local : Option (Keyed D)) (w : World D) → Answers In gone → P w.points → Answers In (reads_local gone was_there local w)
  reads_local_points gone was_there None w h s = none_there_points gone was_there w h s
  reads_local_points gone was_there (Some local) w h s = s

  local_or_points : (gone : Result (Entry D × World D) FailureKind) (key : ℕ) (w : World D) → Answers In gone → P w.points → Answers In (local_or gone key w)
  local_or_points gone key w h s = onward (active_thread w) _ (λ thread. reads_local_points gone (is_taken key thread) (local_at key thread) w h s)

  puts_local_points : (key : ℕ) (value : D) (local : Option (Keyed D)) (w : World D) → P w.points → Answers In (puts_local key value local w)
  puts_local_points key value None w s = tt
  puts_local_points key value (Some local) w s = s

  pub local_points : (todo : LocalOp D) (w : World D) → P w.points → Answers In (local_begins todo w)
  local_points (local_op.With key) w s = local_or_points _ key w tt s
  local_points (local_op.TryWith key) w s = local_or_points _ key w s s
  local_points (local_op.Init key value) w s = onward (active_thread w) _ (λ thread. onward (check (not (is_taken key thread)) KeyTaken) _ (λ u. s))
  local_points (local_op.Put key value) w s = onward (active_thread w) _ (λ thread. puts_local_points key value (local_at key thread) w s)

  reads_lazy_points : (lazy : Option (Lazy D)) (w : World D) → P w.points → Answers In (reads_lazy lazy w)
  reads_lazy_points None w s = s
  reads_lazy_points (Some lazy) w s = step w.points _ (acquire_from_stamp w.active lazy.stamp) tt s

  makes_lazy_points : (key : ℕ) (value : D) (lazy : Option (Lazy D)) (w : World D) → P w.points → Answers In (makes_lazy key value lazy w)
  makes_lazy_points key value None w s = step _ _ (release_to_stamp w.active (length w.points.stamps) AcqRel) tt (step w.points _ new_stamp tt s)
  makes_lazy_points key value (Some lazy) w s = step w.points _ (acquire_from_stamp w.active lazy.stamp) tt s

  pub lazy_points : (todo : LazyOp D) (w : World D) → P w.points → Answers In (lazy_begins todo w)
  lazy_points (lazy_op.Get key) w s = onward (check (are_open w) LazyShutdown) _ (λ u. reads_lazy_points (lazy_at key w) w s)
  lazy_points (lazy_op.Init key value) w s = onward (check (are_open w) LazyShutdown) _ (λ u. makes_lazy_points key value (lazy_at key w) w s)

  -- ---- threads

  parks_points : (has_token : Bool) (w : World D) → P w.points → Answers In (parks_unless has_token w)
  parks_points true w s = s
  parks_points false w s = s

  finish_points : (notifier : Option ℕ) (value : D) (w : World D) → P w.points → Answers In (finish_as notifier value w)
  finish_points None value w s = s
  finish_points (Some n) value w s = s

  unparks_points : (t : ℕ) (w : World D) → P w.points → Answers In (unparks t w)
  unparks_points t w s = onward (found (slice_get w.threads t) Misuse) _ (λ thread. s)

  pub thread_points : (todo : ThreadOp D ⊤) (w : World D) → P w.points → Answers In (thread_begins todo w)
  thread_points (thread_op.Spawn body name) w s =
      onward (check (nat_lt (length w.threads) w.max_threads) TooManyThreads) _ (λ u. answered In (points_after_spawn w.points w.active) _ (λ points e.
      step points _ new_point tt (step w.points _ (spawn w.active points e) tt s)))
  thread_points (thread_op.Join t n) w s =
      onward (check (has_own (slice_get w.threads t) n) Misuse) _ (λ u. onward (a_notify n w) _ (λ notifier. onward (check (is_none notifier.waiter) Misuse) _ (λ v. s)))
  thread_points thread_op.Current w s = onward (active_thread w) _ (λ thread. s)
  thread_points thread_op.Park w s = onward (active_thread w) _ (λ thread. parks_points thread.has_token w s)
  thread_points (thread_op.Unpark t) w s = from_there (unparks t w) _ (unparks_points t w s) (λ given r. joined given.1.points (if_other w.active t) given.1.active r)
  thread_points thread_op.Yield w s = from_there (yields task.Continue w) _ (yielded_so task.Continue w s) (λ yielded r. r)
  thread_points (thread_op.Finish value) w s = onward (active_thread w) _ (λ thread. onward (check (is_working thread.phase) Misuse) _ (λ u. finish_points thread.notifier value _ s))
  thread_points thread_op.Exit w s = onward (active_thread w) _ (λ thread. onward (check (is_finished thread.phase) Misuse) _ (λ u. s))
  thread_points thread_op.End w s = onward (active_thread w) _ (λ thread. onward (check (is_exited thread.phase) Misuse) _ (λ u. s))

  takes_result_points : (t : ℕ) (w : World D) → P w.points → Answers In (takes_result t w)
  takes_result_points t w s = onward (found (slice_get w.threads t) Misuse) _ (λ thread. onward (found thread.result Misuse) _ (λ value. s))

  pub join_points : (t n : ℕ) (w : World D) → P w.points → Answers In (join t n w)
  join_points t n w s =
      onward (a_notify n w) _ (λ notifier. onward (check notifier.notified Misuse) _ (λ u. from_there (takes_result t w) _ (takes_result_points t w s) (λ taken r. acquired taken.1.points taken.1.active n r)))

  pub child_finish_points : (n : ℕ) (value : D) (w : World D) → P w.points → Answers In (child_finish n value w)
  child_finish_points n value w s = from_there (notify n w) _ (notify_points n w s) (λ after r. r)

  -- ---- what each operation, and each effect, may do

  -- what it does at once it may do
  abbrev pub MayBegin : Request D ⊤ → Type 0
  MayBegin (op.Fence order) = May (Fencing order)
  MayBegin (op.Atomic todo) = MayMake todo
  MayBegin _ = Unit {0}

  -- where it accesses an atomic it may make a store
  abbrev pub MayTake : Task D → Type 0
  MayTake (task.Access access) = May Storing
  MayTake _ = Unit {0}

  -- an access that reads may read each slot that is such a one, of those that it is offered
  module _ (Offered : List Bool → ℕ → Type 0)
      (may_read : (raised : Points) (t n : ℕ) (reads : Reader) (slots : List ℕ) (slot : ℕ) → readable_slots_of raised t n reads ≡ Ok slots → Offered (slot_set slots) slot → May (Reading raised t n reads slot)) where
    -- what was pending took effect, or such a slot is to be chosen
    abbrev pub ResumedIf : Resumed D × World D → Type 0
    ResumedIf (resumed.Passed passed, w) = PassedTo At In (passed, w)
    ResumedIf (resumed.Load loading, w) = (slot : ℕ) → Offered loading.readable slot → Answers (ReplyTo At In) (reads loading.access w slot)

    pub by_reply : (r : Result (Reply D × World D) FailureKind) → Answers In r → Answers ResumedIf (r >>= replied)
    by_reply (Ok there) s = s
    by_reply (Err kind) s = tt

    pub by_passed : (r : Result (Passed D × World D) FailureKind) → Answers In r → Answers ResumedIf (r >>= gone)
    by_passed (Ok (passed.Turn turn, v)) s = s
    by_passed (Ok (passed.AtBranch, v)) s = s
    by_passed (Err kind) s = tt

    opens_points : (n : ℕ) (reads_by : Reader) (access : AtomicOp) (w : World D) (m : May Storing) (s : P w.points)
        → ((raised : Points) (e : points_after_raise w.points w.active ≡ Ok raised) (slot : ℕ) → May (Reading raised w.active n reads_by slot) → MaySlot w raised e m s access slot) → Answers ResumedIf (opens n reads_by access w)
    opens_points n reads_by access w m s may =
        by_points ResumedIf w (points_after_raise w.points w.active) _ (λ raised e. answers_then ResumedIf (an_atomic n (with_points raised w)) _ (λ atomic.
        answered ResumedIf (readable_slots_of raised w.active n reads_by) _ (λ readable f. answers_then ResumedIf (check (some_slot (slot_set readable)) Misuse) _ (λ u slot offered.
        replying (reads access (with_points raised w) slot) (reads_points w raised e m s access slot (may raised e slot (may_read raised w.active n reads_by readable slot f offered)))))))
      where
        replying : (r : Result (Reply D × World D) FailureKind) → Answers In r → Answers (ReplyTo At In) r
        replying (Ok (reply, v)) h = h
        replying (Err kind) h = tt

    pub accesses_points : (access : AtomicOp) (w : World D) → May Storing → P w.points → Answers ResumedIf (accesses access w)
    accesses_points (atomic_op.Store n value order) w m s = by_reply _ (store_points n value order w m s)
    accesses_points (atomic_op.Load n order) w m s = opens_points n (reader.Load order) (atomic_op.Load n order) w m s (λ raised e slot z. z)
    accesses_points (atomic_op.Update n change order) w m s = opens_points n reader.Update (atomic_op.Update n change order) w m s (λ raised e slot z. z)
    accesses_points (atomic_op.CompareExchange n exchange) w m s = opens_points n reader.Update (atomic_op.CompareExchange n exchange) w m s (λ raised e slot z. z)
    accesses_points (atomic_op.CompareAndSwap n expected new order) w m s = opens_points n reader.Update (atomic_op.CompareAndSwap n expected new order) w m s (λ raised e slot z. z)
    accesses_points (atomic_op.New numbers value) w m s = tt
    accesses_points (atomic_op.UnsyncLoad n) w m s = tt
    accesses_points (atomic_op.IntoInner n) w m s = tt
    accesses_points (atomic_op.WithMut n) w m s = tt
    accesses_points (atomic_op.WithMutEnd n value) w m s = tt

  pub end_points : (w : World D) → P w.points → Answers In (end_of w)
  end_points w s = onward (check_leak (first_leak w.objects)) _ (λ u. from_there (takes_result 0 w) _ (takes_result_points 0 w s) (λ taken r. r))
