-- Only replies to locks and waits have the data of a lock.
use Rattle.std.proofs.Common.{◌≡◌, ℕ, Bool, true, false, List, [], ◌∷◌, Option, Some, None, refl}
use Rattle.std.specs.Prelude.{◌==◌, Result, Ok, Err, ⊤, is_none, length, nat_lt, not, slice_get, ◌-◌, ◌^◌}
use Rattle.std.specs.declared.sync.atomic.Ordering.{Ordering}
use Rattle.loom_views.specs.declared.rt.failure.FailureKind.{FailureKind}
use Rattle.loom_views.specs.Changes.{fit, changed}
use Rattle.loom_objects.specs.declared.operation.ArcOp.{ArcOp}
use Rattle.loom_objects.specs.declared.operation.ArcOp.TheVariants as arc_op
use Rattle.loom_objects.specs.declared.operation.AtomicOp.{AtomicOp}
use Rattle.loom_objects.specs.declared.operation.AtomicOp.TheVariants as atomic_op
use Rattle.loom_objects.specs.declared.operation.AtomicWakerOp.{AtomicWakerOp}
use Rattle.loom_objects.specs.declared.operation.AtomicWakerOp.TheVariants as place_op
use Rattle.loom_objects.specs.declared.operation.CellOp.{CellOp}
use Rattle.loom_objects.specs.declared.operation.CellOp.TheVariants as cell_op
use Rattle.loom_objects.specs.declared.operation.ChannelOp.{ChannelOp}
use Rattle.loom_objects.specs.declared.operation.ChannelOp.TheVariants as channel_op
use Rattle.loom_objects.specs.declared.operation.Keyed.{Keyed}
use Rattle.loom_objects.specs.declared.operation.Lazy.{Lazy}
use Rattle.loom_objects.specs.declared.operation.LazyOp.{LazyOp}
use Rattle.loom_objects.specs.declared.operation.LazyOp.TheVariants as lazy_op
use Rattle.loom_objects.specs.declared.operation.LocalOp.{LocalOp}
use Rattle.loom_objects.specs.declared.operation.LocalOp.TheVariants as local_op
use Rattle.loom_objects.specs.declared.operation.Message.{Message}
use Rattle.loom_objects.specs.declared.operation.NotifyOp.{NotifyOp}
use Rattle.loom_objects.specs.declared.operation.NotifyOp.TheVariants as notify_op
use Rattle.loom_objects.specs.declared.operation.Reply.{Reply}
use Rattle.loom_objects.specs.declared.operation.RwLockOp.{RwLockOp}
use Rattle.loom_objects.specs.declared.operation.Turn.TheVariants as turn
use Rattle.loom_objects.specs.declared.operation.RwLockOp.TheVariants as lock_op
use Rattle.loom_objects.specs.declared.operation.ThreadOp.{ThreadOp}
use Rattle.loom_objects.specs.declared.operation.ThreadOp.TheVariants as thread_op
use Rattle.loom_objects.specs.declared.operation.TrackOp.{TrackOp}
use Rattle.loom_objects.specs.declared.operation.TrackOp.TheVariants as track_op
use Rattle.loom_objects.specs.declared.operation.WakerOp.{WakerOp}
use Rattle.loom_objects.specs.declared.operation.WakerOp.TheVariants as waker_op
use Rattle.loom_objects.specs.declared.rt.run.Entry.{Entry}
use Rattle.loom_objects.specs.declared.rt.run.Entry.TheVariants.{Answered, AtBranch, Explores, Spurious as AtSpurious}
use Rattle.loom_objects.specs.declared.rt.run.Passed.{Passed}
use Rattle.loom_objects.specs.declared.rt.run.Passed.TheVariants as passed
use Rattle.loom_objects.specs.declared.rt.run.Resumed.{Resumed}
use Rattle.loom_objects.specs.declared.rt.run.Resumed.TheVariants as resumed
use Rattle.loom_objects.specs.declared.rt.mpsc.Channel.{Channel}
use Rattle.loom_objects.specs.declared.rt.notify.Notify.{Notify}
use Rattle.loom_views.specs.declared.rt.atomic.reader.Reader.{Reader}
use Rattle.loom_views.specs.Atomic.Slots.{slot_set}
use Rattle.loom_views.specs.Views.{readable_slots_of, points_after_load, points_after_spawn, points_after_store, points_after_unsync_load, points_after_update_read, points_after_with_mut, points_after_with_mut_end}
use Rattle.loom_objects.specs.declared.rt.thread.Claim.{Claim}
use Rattle.loom_objects.specs.declared.rt.thread.Claim.TheVariants.{Read, TryRead, Write, TryWrite}
use Rattle.loom_objects.specs.declared.rt.thread.Counting.{Counting}
use Rattle.loom_objects.specs.declared.rt.thread.Counting.TheVariants as counting
use Rattle.loom_objects.specs.declared.rt.thread.Receiving.{Receiving}
use Rattle.loom_objects.specs.declared.rt.thread.Receiving.TheVariants as receiving
use Rattle.loom_objects.specs.declared.rt.thread.Task.{Task}
use Rattle.loom_objects.specs.declared.rt.thread.Task.TheVariants as task
use Rattle.loom_objects.specs.declared.rt.thread.Waking.{Waking}
use Rattle.loom_objects.specs.Rules.Atomic.{opens, some_slot, access_begins, atomic_begins, exchanges, fence, reads, store, is_relaxed, swap_of, writes}
use Rattle.loom_objects.specs.Rules.Cell.{cell_begins, exchanges_cells, swap_if, data_left, is_free, is_unread, opens_write, reads_open, records_read, records_write}
use Rattle.loom_objects.specs.Rules.Mpsc.{by_receiver, by_sender, channel_begins, delivers, drains_if, first_of, fits_behind, none_left, receives, receives_from, sends, tries_recv}
use Rattle.loom_objects.specs.Rules.Condvar.{wake_begins, wakes}
use Rattle.loom_objects.specs.Rules.Arc.{is_free as is_free_arc, arc_begins, comes_to, counts, decrements, drops_last, shared_unless, tries_unwrap, unwraps_if, may_grow, sole_value, with_arc, with_one_fewer}
use Rattle.loom_objects.specs.Rules.Leaks.{is_none_left}
use Rattle.loom_objects.specs.Rules.Notify.{awaits, comes_to_wait, has_waker, notify_begins, notifies, wait_begins, wakes_early, is_alone, is_for_waits, may_be_spurious, notify}
use Rattle.loom_objects.specs.Rules.Rule.{◌>>=◌, check, found}
use Rattle.loom_objects.specs.Rules.RwLock.{claim_begins, rwlock_begins, guards_of, unlocked_value}
use Rattle.loom_objects.specs.Rules.Thread.{child_finish, finish_as, join, parks_unless, thread_begins, has_own, is_exited, is_finished}
use Rattle.loom_objects.specs.Rules.Alloc.{track_begins, track_take}
use Rattle.loom_objects.specs.Rules.Locals.{are_open, is_taken, is_working, lazy_at, lazy_begins, local_at, local_begins, local_or, makes_lazy, none_there, puts_local, reads_lazy, reads_local}
use Rattle.loom_objects.specs.Rules.Waker.{atomic_waker_begins, some_wakers, waker_begins}
use Rattle.loom_objects.specs.World.{World}
use Rattle.loom_engine.specs.Runs.Histories.{locked_by, locked_by_turn}
use Rattle.loom_engine.proofs.Runs.Answering.{Answers, GoesQuietly, answers_then, waker_reply_quiet}
use Rattle.loom_objects.specs.declared.rt.thread.Phase.TheVariants.{Finished}
use Rattle.loom_views.specs.declared.rt.failure.FailureKind.TheVariants.{KeyTaken, LazyShutdown, Misuse, OpenAccess, RelaxedFence, SecondWaiter, TooManySteps, TooManyThreads}
use Rattle.loom_views.specs.Limits.{highest_count}
use Rattle.loom_objects.specs.Rules.Moves.{a_cell, a_condvar, a_notify, an_atomic_waker, a_rwlock, a_track, acquires, active_thread, an_arc, an_atomic, at_phase, changes_active, is_number, raises, releases, takes_result, unparks, with_points, yields}
use Rattle.loom_objects.specs.Operation.Accessed.{accessed}
use Rattle.loom_objects.specs.Lent.{kept, value_in}
use Rattle.loom_engine.proofs.Runs.States.{Aim, Ready}
use Rattle.loom_engine.proofs.Runs.Ruling.{Entering, Fairly, Keeping, PassedTo, Telling, Resuming, then_fairly}
use Rattle.loom_objects.specs.Rules.Replied.{gone, replied}

none_left_quiet : (D : Type 0) (by : Receiving) → locked_by {D = D} (none_left by) ≡ None
none_left_quiet D receiving.Recv = refl
none_left_quiet D receiving.TryRecv = refl

module _ {D : Type 0} where
  -- what is answered is no data of a mutex, and the search isn't switched
  abbrev pub Quiet : Entry D × World D → Type 0
  Quiet (Answered reply, w) = locked_by reply ≡ None
  Quiet (AtBranch, w) = Unit {0}
  Quiet (AtSpurious n, w) = Unit {0}
  Quiet (Explores todo, w) = ⊥

  abbrev pub Unlocked : Reply D × World D → Type 0
  Unlocked (reply, w) = locked_by reply ≡ None

  abbrev pub QuietPass : Passed D × World D → Type 0
  QuietPass (passed.Turn turn, w) = locked_by_turn turn ≡ None
  QuietPass (passed.AtBranch, w) = Unit {0}

  pub enters : (w : World D) (returned : Option ℕ) (r : Result (Entry D × World D) FailureKind) → Keeping w r → Answers Quiet r → Fairly (Entering returned w) r
  enters w returned (Ok (Answered reply, v)) kept quiet = λ out other k. (kept out k, λ n e. absurd (cc (quiet, e)))
  enters w returned (Ok (AtBranch, v)) kept quiet = λ out other k. (kept out k).kept
  enters w returned (Ok (AtSpurious n, v)) kept quiet = λ out other k. kept out k
  enters w returned (Ok (Explores todo, v)) kept quiet = absurd quiet
  enters w returned (Err kind) kept quiet = kept

  pub tells : (w : World D) (r : Result (Reply D × World D) FailureKind) → Keeping w r → Answers Unlocked r → Fairly (Telling w) r
  tells w (Ok answered) kept quiet = λ out k. (kept out k, λ n e. absurd (cc (quiet, e)))
  tells w (Err kind) kept quiet = kept

  abbrev pub Passing : World D → Passed D × World D → Type 0
  Passing w answered = (out : Aim) → Ready out w → PassedTo out answered

  pub passes_on : (w : World D) (r : Result (Passed D × World D) FailureKind) → Keeping w r → Answers QuietPass r → Fairly (Passing w) r
  passes_on w (Ok (passed.Turn (turn.Reply t reply), v)) kept quiet = λ out k. (kept out k, λ n e. absurd (cc (quiet, e)))
  passes_on w (Ok (passed.Turn (turn.Start t), v)) kept quiet = kept
  passes_on w (Ok (passed.Turn (turn.Ended value), v)) kept quiet = λ out k. (kept out k).kept
  passes_on w (Ok (passed.AtBranch, v)) kept quiet = kept
  passes_on w (Err kind) kept quiet = kept

  -- ---- no switch of the search

  abbrev pub IsNoSwitch : Entry D → Type 0
  IsNoSwitch (Answered reply) = Unit {0}
  IsNoSwitch AtBranch = Unit {0}
  IsNoSwitch (AtSpurious n) = Unit {0}
  IsNoSwitch (Explores todo) = ⊥

  abbrev pub Unswitched : Entry D × World D → Type 0
  Unswitched entered = IsNoSwitch entered.0

  pub quiet_unswitched : (r : Result (Entry D × World D) FailureKind) → Answers Quiet r → Answers Unswitched r
  quiet_unswitched (Ok (Answered reply, w)) h = tt
  quiet_unswitched (Ok (AtBranch, w)) h = tt
  quiet_unswitched (Ok (AtSpurious n, w)) h = tt
  quiet_unswitched (Ok (Explores todo, w)) h = absurd h
  quiet_unswitched (Err kind) h = tt

  pub unswitched : {B : Type 0} (r : Result B FailureKind) (next : B → Result (Entry D × World D) FailureKind) → ((b : B) → Answers Unswitched (next b)) → Answers Unswitched (r >>= next)
  unswitched r next h = answers_then Unswitched r next h

  -- ---- what operations answer at once

  pub after : {B : Type 0} (r : Result B FailureKind) (next : B → Result (Entry D × World D) FailureKind) → ((b : B) → Answers Quiet (next b)) → Answers Quiet (r >>= next)
  after r next h = answers_then Quiet r next h

  access_quiet : (access : AtomicOp) (w : World D) → Answers Quiet (access_begins access w)
  access_quiet access w = after (found (accessed access) Misuse) _ (λ n. after (an_atomic n w) _ (λ u. tt))

  pub atomic_quiet : (todo : AtomicOp) (w : World D) → Answers Quiet (atomic_begins todo w)
  atomic_quiet (atomic_op.New numbers value) w = refl
  atomic_quiet (atomic_op.UnsyncLoad n) w = after (an_atomic n w) _ (λ u. after (points_after_unsync_load w.points w.active n) _ (λ read. refl))
  atomic_quiet (atomic_op.IntoInner n) w = after (an_atomic n w) _ (λ atomic. after (points_after_unsync_load w.points w.active n) _ (λ read. refl))
  atomic_quiet (atomic_op.WithMut n) w = after (an_atomic n w) _ (λ atomic. after (points_after_with_mut w.points w.active n) _ (λ read. refl))
  atomic_quiet (atomic_op.WithMutEnd n value) w = after (an_atomic n w) _ (λ atomic. after (check (is_number atomic.opened w.active) Misuse) _ (λ u. after (points_after_with_mut_end w.points w.active n (fit atomic.numbers value)) _ (λ stored. refl)))
  atomic_quiet (atomic_op.Load n order) w = access_quiet (atomic_op.Load n order) w
  atomic_quiet (atomic_op.Store n value order) w = access_quiet (atomic_op.Store n value order) w
  atomic_quiet (atomic_op.Update n change order) w = access_quiet (atomic_op.Update n change order) w
  atomic_quiet (atomic_op.CompareExchange n exchange) w = access_quiet (atomic_op.CompareExchange n exchange) w
  atomic_quiet (atomic_op.CompareAndSwap n expected new order) w = access_quiet (atomic_op.CompareAndSwap n expected new order) w

  pub fence_quiet : (order : Ordering) (w : World D) → Answers Quiet (fence order w)
  fence_quiet order w = after (raises w) _ (λ raised. after (check (not (is_relaxed order)) RelaxedFence) _ (λ u. refl))

  exchanges_quiet : (n m : ℕ) (w : World D) → Answers Quiet (exchanges_cells n m w)
  exchanges_quiet n m w = after (a_cell n w) _ (λ one. after (a_cell m w) _ (λ other. after (found (value_in one.content) Misuse) _ (λ of_one. after (found (value_in other.content) Misuse) _ (λ of_other. after (records_write m w) _ (λ written. after (records_write n written) _ (λ ended. refl))))))

  swap_quiet : (is_same : Bool) (n m : ℕ) (w : World D) → Answers Quiet (swap_if is_same n m w)
  swap_quiet true n m w = refl
  swap_quiet false n m w = after (opens_write n w) _ (λ opened. after (opens_write m opened.1) _ (λ both. exchanges_quiet n m both.1))

  pub cell_quiet : (todo : CellOp D) (w : World D) → Answers Quiet (cell_begins todo w)
  cell_quiet (cell_op.New value) w = refl
  cell_quiet (cell_op.Read n) w = after (a_cell n w) _ (λ cell. after (raises w) _ (λ raised. after (check (is_none cell.content.lent) OpenAccess) _ (λ u. after (records_read n raised) _ (λ read. after (found (value_in cell.content) Misuse) _ (λ value. after (check (nat_lt (reads_open w.active cell) (2 ^ 64 - 1)) TooManySteps) _ (λ v. refl))))))
  cell_quiet (cell_op.ReadEnd n) w = after (a_cell n w) _ (λ cell. after (check (nat_lt 0 (reads_open w.active cell)) Misuse) _ (λ u. after (check (is_none cell.content.lent) OpenAccess) _ (λ v. after (records_read n w) _ (λ read. refl))))
  cell_quiet (cell_op.Deref n) w = after (a_cell n w) _ (λ cell. after (check (nat_lt 0 (reads_open w.active cell)) Misuse) _ (λ u. after (found (value_in cell.content) Misuse) _ (λ value. refl)))
  cell_quiet (cell_op.Write n) w = after (a_cell n w) _ (λ cell. after (raises w) _ (λ raised. after (check (is_free cell) OpenAccess) _ (λ u. after (records_write n raised) _ (λ written. after (found (value_in cell.content) Misuse) _ (λ value. refl)))))
  cell_quiet (cell_op.WriteEnd n value) w = after (a_cell n w) _ (λ cell. after (check (is_number cell.content.lent w.active) Misuse) _ (λ u. after (check (is_unread cell) OpenAccess) _ (λ v. after (records_write n w) _ (λ written. refl))))
  cell_quiet (cell_op.IntoInner n) w = after (a_cell n w) _ (λ cell. after (data_left cell) _ (λ value. refl))
  cell_quiet (cell_op.Get n) w = after (a_cell n w) _ (λ cell. after (raises w) _ (λ raised. after (check (is_none cell.content.lent) OpenAccess) _ (λ u. after (records_read n raised) _ (λ read. after (found (value_in cell.content) Misuse) _ (λ value. after (records_read n read) _ (λ ended. refl))))))
  cell_quiet (cell_op.Replace n new) w = after (a_cell n w) _ (λ cell. after (raises w) _ (λ raised. after (check (is_free cell) OpenAccess) _ (λ u. after (records_write n raised) _ (λ written. after (found (value_in cell.content) Misuse) _ (λ value. after (records_write n written) _ (λ ended. refl))))))
  cell_quiet (cell_op.Swap n m) w = after (a_cell n w) _ (λ u. after (a_cell m w) _ (λ v. swap_quiet (n == m) n m w))

  comes_to_quiet : (todo : Task D) (n : ℕ) (w : World D) → Answers Quiet (comes_to todo n w)
  comes_to_quiet todo n w = after (an_arc n w) _ (λ arc. after (check (nat_lt 0 arc.count) Misuse) _ (λ u. tt))

  pub arc_quiet : (todo : ArcOp D) (w : World D) → Answers Quiet (arc_begins todo w)
  arc_quiet (arc_op.New value) w = refl
  arc_quiet (arc_op.Get n) w = after (an_arc n w) _ (λ arc. after (check (is_free_arc arc) Misuse) _ (λ u. after (found (value_in arc.content) Misuse) _ (λ value. refl)))
  arc_quiet (arc_op.Put n value) w = after (an_arc n w) _ (λ arc. after (check (is_number arc.content.lent w.active) Misuse) _ (λ u. refl))
  arc_quiet (arc_op.Clone n) w = comes_to_quiet _ n w
  arc_quiet (arc_op.Drop n) w = comes_to_quiet _ n w
  arc_quiet (arc_op.GetMut n) w = comes_to_quiet _ n w
  arc_quiet (arc_op.StrongCount n) w = comes_to_quiet _ n w
  arc_quiet (arc_op.TryUnwrap n) w = comes_to_quiet _ n w

  take_quiet : (n : ℕ) (w : World D) → Answers Quiet (track_take n w)
  take_quiet n w = after (a_track n w) _ (λ track. after (found (value_in track.content) Misuse) _ (λ value. refl))

  pub track_quiet : (todo : TrackOp D) (w : World D) → Answers Quiet (track_begins todo w)
  track_quiet (track_op.New value) w = refl
  track_quiet (track_op.GetRef n) w = after (a_track n w) _ (λ track. after (found (value_in track.content) Misuse) _ (λ value. refl))
  track_quiet (track_op.GetMut n) w = after (a_track n w) _ (λ track. after (found (value_in track.content) Misuse) _ (λ value. refl))
  track_quiet (track_op.Put n value) w = after (a_track n w) _ (λ track. after (check (is_number track.content.lent w.active) Misuse) _ (λ u. refl))
  track_quiet (track_op.IntoInner n) w = take_quiet n w
  track_quiet (track_op.Drop n) w = take_quiet n w

  claim_quiet : (claim : Claim) (n : ℕ) (w : World D) → Answers Quiet (claim_begins claim n w)
  claim_quiet claim n w = after (a_rwlock n w) _ (λ lock. tt)

  pub rwlock_quiet : (todo : RwLockOp D) (w : World D) → Answers Quiet (rwlock_begins todo w)
  rwlock_quiet (lock_op.New value) w = refl
  rwlock_quiet (lock_op.Read n) w = claim_quiet Read n w
  rwlock_quiet (lock_op.TryRead n) w = claim_quiet TryRead n w
  rwlock_quiet (lock_op.Write n) w = claim_quiet Write n w
  rwlock_quiet (lock_op.TryWrite n) w = claim_quiet TryWrite n w
  rwlock_quiet (lock_op.ReadRelease n) w = after (a_rwlock n w) _ (λ lock. after (check (nat_lt 0 (guards_of w.active lock)) Misuse) _ (λ u. refl))
  rwlock_quiet (lock_op.WriteRelease n value) w = after (a_rwlock n w) _ (λ lock. after (check (is_number lock.writer w.active) Misuse) _ (λ u. refl))
  rwlock_quiet (lock_op.GetMut n) w = after (a_rwlock n w) _ (λ lock. after (found (unlocked_value lock) Misuse) _ (λ value. refl))
  rwlock_quiet (lock_op.Put n value) w = after (a_rwlock n w) _ (λ lock. after (check (is_number lock.content.lent w.active) Misuse) _ (λ u. refl))
  rwlock_quiet (lock_op.IntoInner n) w = after (a_rwlock n w) _ (λ lock. after (found (unlocked_value lock) Misuse) _ (λ value. refl))

  pub wake_begins_quiet : (waking : Waking) (n : ℕ) (w : World D) → Answers Quiet (wake_begins waking n w)
  wake_begins_quiet waking n w = after (a_condvar n w) _ (λ u. tt)

  waits_quiet : (may_be : Bool) (n : ℕ) (notifier : Notify) (w : World D) → Answers Quiet (comes_to_wait may_be n notifier w)
  waits_quiet true n notifier w = tt
  waits_quiet false n notifier w = tt

  pub notifier_quiet : (todo : NotifyOp) (w : World D) → Answers Quiet (notify_begins todo w)
  notifier_quiet notify_op.New w = refl
  notifier_quiet (notify_op.Notify n) w = after (a_notify n w) _ (λ notifier. after (check (is_for_waits notifier.spurious) Misuse) _ (λ u. tt))
  notifier_quiet (notify_op.Wait n) w = after (a_notify n w) _ (λ notifier. after (check (is_for_waits notifier.spurious) Misuse) _ (λ u. after (check (is_alone w.active notifier) SecondWaiter) _ (λ v. waits_quiet (may_be_spurious notifier.spurious) n notifier w)))

  tries_recv_quiet : (is_empty : Bool) (n : ℕ) (w : World D) → Answers Quiet (tries_recv is_empty n w)
  tries_recv_quiet true n w = refl
  tries_recv_quiet false n w = tt

  drains_if_quiet : (is_some_left : Bool) (channel : Channel D) (n : ℕ) (w : World D) → Answers Quiet (drains_if is_some_left channel n w)
  drains_if_quiet true channel n w = tt
  drains_if_quiet false channel n w = refl

  pub channel_quiet : (todo : ChannelOp D) (w : World D) → Answers Quiet (channel_begins todo w)
  channel_quiet channel_op.New w = refl
  channel_quiet (channel_op.Send n value) w = after (by_sender n w) _ (λ channel. tt)
  channel_quiet (channel_op.Recv n) w = after (by_receiver n w) _ (λ channel. tt)
  channel_quiet (channel_op.TryRecv n) w = after (by_receiver n w) _ (λ channel. tries_recv_quiet (is_none_left channel.messages) n w)
  channel_quiet (channel_op.CloneSender n) w = after (by_sender n w) _ (λ channel. after (check (nat_lt channel.senders highest_count) TooManySteps) _ (λ u. refl))
  channel_quiet (channel_op.DropSender n) w = after (by_sender n w) _ (λ channel. refl)
  channel_quiet (channel_op.DropReceiver n) w = after (by_receiver n w) _ (λ channel. drains_if_quiet (nat_lt 0 (length channel.messages)) channel n w)

  wait_quiet : (n : ℕ) (w : World D) → Answers Quiet (wait_begins n w)
  wait_quiet n w = notifier_quiet (notify_op.Wait n) w

  pub waker_quiet : (todo : WakerOp) (w : World D) → Answers Quiet (waker_begins todo w)
  waker_quiet waker_op.New w = refl
  waker_quiet (waker_op.Wait c) w = after (some_wakers c w) _ (λ wakers. wait_quiet wakers.notifier w)
  waker_quiet (waker_op.Finish c) w = after (some_wakers c w) _ (λ wakers. tt)
  waker_quiet (waker_op.Clone c) w = after (some_wakers c w) _ (λ wakers. tt)
  waker_quiet (waker_op.Wake c) w = after (some_wakers c w) _ (λ wakers. tt)
  waker_quiet (waker_op.WakeByRef c) w = after (some_wakers c w) _ (λ wakers. tt)
  waker_quiet (waker_op.Drop c) w = after (some_wakers c w) _ (λ wakers. tt)

  pub place_quiet : (todo : AtomicWakerOp) (w : World D) → Answers Quiet (atomic_waker_begins todo w)
  place_quiet place_op.New w = refl
  place_quiet (place_op.Register p c) w = after (an_atomic_waker p w) _ (λ place. after (some_wakers c w) _ (λ wakers. tt))
  place_quiet (place_op.RegisterByRef p c) w = after (an_atomic_waker p w) _ (λ place. after (some_wakers c w) _ (λ wakers. tt))
  place_quiet (place_op.Wake p) w = after (an_atomic_waker p w) _ (λ place. tt)
  place_quiet (place_op.TakeWaker p) w = after (an_atomic_waker p w) _ (λ place. tt)
  place_quiet (place_op.Drop p) w = after (an_atomic_waker p w) _ (λ place. waker_reply_quiet D place.waker)

  none_there_quiet : (gone : Result (Entry D × World D) FailureKind) (was_there : Bool) (w : World D) → Answers Quiet gone → Answers Quiet (none_there gone was_there w)
  none_there_quiet gone true w h = h
  none_there_quiet gone false w h = refl

  reads_local_quiet : (gone : Result (Entry D × World D) FailureKind) (was_there : Bool) (local : Option (Keyed D)) (w : World D) → Answers Quiet gone → Answers Quiet (reads_local gone was_there local w)
  reads_local_quiet gone was_there None w h = none_there_quiet gone was_there w h
  reads_local_quiet gone was_there (Some local) w h = refl

  local_or_quiet : (gone : Result (Entry D × World D) FailureKind) (key : ℕ) (w : World D) → Answers Quiet gone → Answers Quiet (local_or gone key w)
  local_or_quiet gone key w h = after (active_thread w) _ (λ thread. reads_local_quiet gone (is_taken key thread) (local_at key thread) w h)

  puts_local_quiet : (key : ℕ) (value : D) (local : Option (Keyed D)) (w : World D) → Answers Quiet (puts_local key value local w)
  puts_local_quiet key value None w = tt
  puts_local_quiet key value (Some local) w = refl

  pub local_quiet : (todo : LocalOp D) (w : World D) → Answers Quiet (local_begins todo w)
  local_quiet (local_op.With key) w = local_or_quiet _ key w tt
  local_quiet (local_op.TryWith key) w = local_or_quiet _ key w refl
  local_quiet (local_op.Init key value) w = after (active_thread w) _ (λ thread. after (check (not (is_taken key thread)) KeyTaken) _ (λ u. refl))
  local_quiet (local_op.Put key value) w = after (active_thread w) _ (λ thread. puts_local_quiet key value (local_at key thread) w)

  reads_lazy_quiet : (lazy : Option (Lazy D)) (w : World D) → Answers Quiet (reads_lazy lazy w)
  reads_lazy_quiet None w = refl
  reads_lazy_quiet (Some lazy) w = refl

  makes_lazy_quiet : (key : ℕ) (value : D) (lazy : Option (Lazy D)) (w : World D) → Answers Quiet (makes_lazy key value lazy w)
  makes_lazy_quiet key value None w = refl
  makes_lazy_quiet key value (Some lazy) w = refl

  pub lazy_quiet : (todo : LazyOp D) (w : World D) → Answers Quiet (lazy_begins todo w)
  lazy_quiet (lazy_op.Get key) w = after (check (are_open w) LazyShutdown) _ (λ u. reads_lazy_quiet (lazy_at key w) w)
  lazy_quiet (lazy_op.Init key value) w = after (check (are_open w) LazyShutdown) _ (λ u. makes_lazy_quiet key value (lazy_at key w) w)

  finish_quiet : (notifier : Option ℕ) (value : D) (w : World D) → Answers Quiet (finish_as notifier value w)
  finish_quiet None value w = refl
  finish_quiet (Some n) value w = tt

  parks_quiet : (has_token : Bool) (w : World D) → Answers Quiet (parks_unless has_token w)
  parks_quiet true w = refl
  parks_quiet false w = tt

  pub thread_quiet : (todo : ThreadOp D ⊤) (w : World D) → Answers Quiet (thread_begins todo w)
  thread_quiet (thread_op.Spawn body name) w = after (check (nat_lt (length w.threads) w.max_threads) TooManyThreads) _ (λ u. after (points_after_spawn w.points w.active) _ (λ points. refl))
  thread_quiet (thread_op.Join t n) w = after (check (has_own (slice_get w.threads t) n) Misuse) _ (λ u. after (a_notify n w) _ (λ notifier. after (check (is_none notifier.waiter) Misuse) _ (λ v. tt)))
  thread_quiet thread_op.Current w = after (active_thread w) _ (λ thread. refl)
  thread_quiet thread_op.Park w = after (active_thread w) _ (λ thread. parks_quiet thread.has_token w)
  thread_quiet (thread_op.Unpark t) w = after (unparks t w) _ (λ given. refl)
  thread_quiet thread_op.Yield w = after (yields task.Continue w) _ (λ yielded. tt)
  thread_quiet (thread_op.Finish value) w = after (active_thread w) _ (λ thread. after (check (is_working thread.phase) Misuse) _ (λ u. finish_quiet thread.notifier value (changes_active (at_phase Finished) w)))
  thread_quiet thread_op.Exit w = after (active_thread w) _ (λ thread. after (check (is_finished thread.phase) Misuse) _ (λ u. refl))
  thread_quiet thread_op.End w = after (active_thread w) _ (λ thread. after (check (is_exited thread.phase) Misuse) _ (λ u. tt))

  -- ---- the chosen thread's reply

  next : {B : Type 0} (r : Result B FailureKind) (onward : B → Result (Reply D × World D) FailureKind) → ((b : B) → Answers Unlocked (onward b)) → Answers Unlocked (r >>= onward)
  next r onward h = answers_then Unlocked r onward h

  pub store_quiet : (n value : ℕ) (order : Ordering) (w : World D) → Answers Unlocked (store n value order w)
  store_quiet n value order w = next (raises w) _ (λ raised. next (an_atomic n raised) _ (λ atomic. next (points_after_store raised.points raised.active n (fit atomic.numbers value) order) _ (λ stored. refl)))

  pub reads_quiet : (access : AtomicOp) (w : World D) (slot : ℕ) → Answers Unlocked (reads access w slot)
  reads_quiet (atomic_op.Load n order) w slot = next (points_after_load w.points w.active n slot order) _ (λ loaded. refl)
  reads_quiet (atomic_op.Update n change order) w slot = next (an_atomic n w) _ (λ atomic. next (points_after_update_read w.points w.active n slot) _ (λ read. next (writes n (fit atomic.numbers (changed atomic.numbers change read.value)) order slot (with_points read.points w)) _ (λ written. refl)))
  reads_quiet (atomic_op.CompareExchange n exchange) w slot = next (exchanges n exchange slot w) _ (λ answered. refl)
  reads_quiet (atomic_op.CompareAndSwap n expected new order) w slot = next (exchanges n (swap_of expected new order) slot w) _ (λ answered. refl)
  reads_quiet (atomic_op.New numbers value) w slot = tt
  reads_quiet (atomic_op.Store n value order) w slot = tt
  reads_quiet (atomic_op.UnsyncLoad n) w slot = tt
  reads_quiet (atomic_op.IntoInner n) w slot = tt
  reads_quiet (atomic_op.WithMut n) w slot = tt
  reads_quiet (atomic_op.WithMutEnd n value) w slot = tt

  pub wakes_quiet : (waking : Waking) (n : ℕ) (w : World D) → Answers Unlocked (wakes waking n w)
  wakes_quiet waking n w = next (a_condvar n w) _ (λ condvar. refl)

  pub notifies_quiet : (n : ℕ) (w : World D) → Answers Unlocked (notifies n w)
  notifies_quiet n w = next (notify n w) _ (λ after. refl)

  pub awaits_quiet : (n : ℕ) (w : World D) → Answers Unlocked (awaits n w)
  awaits_quiet n w = next (a_notify n w) _ (λ notifier. next (has_waker notifier.wakers w) _ (λ v. next (check notifier.notified Misuse) _ (λ u. refl)))

  pub wakes_early_quiet : (n : ℕ) (w : World D) → Answers Unlocked (wakes_early n w)
  wakes_early_quiet n w = next (a_notify n w) _ (λ notifier. next (has_waker notifier.wakers w) _ (λ u. refl))

  drops_quiet : (value : Option D) (n : ℕ) (w : World D) → Answers Unlocked (drops_last value n w)
  drops_quiet None n w = refl
  drops_quiet (Some value) n w = refl

  shared_quiet : (value : Option D) → locked_by (shared_unless value) ≡ None
  shared_quiet None = refl
  shared_quiet (Some value) = refl

  decrements_quiet : (n : ℕ) (w : World D) → Answers Unlocked (decrements n w)
  decrements_quiet n w = next (an_arc n w) _ (λ arc. next (sole_value arc) _ (λ value. drops_quiet value n (releases n (with_arc n (with_one_fewer arc) w))))

  pub counts_quiet : (todo : Counting) (n : ℕ) (w : World D) → Answers Unlocked (counts todo n w)
  counts_quiet counting.Clone n w = next (an_arc n w) _ (λ arc. next (may_grow arc) _ (λ u. refl))
  counts_quiet counting.Drop n w = decrements_quiet n w
  counts_quiet counting.GetMut n w = next (an_arc n w) _ (λ arc. next (sole_value arc) _ (λ value. shared_quiet value))
  counts_quiet counting.Unwrap n w = next (an_arc n w) _ (λ arc. next (check (arc.count == 1) Misuse) _ (λ u. decrements_quiet n w))
  counts_quiet counting.StrongCount n w = next (an_arc n w) _ (λ arc. next (check (is_free_arc arc) Misuse) _ (λ u. refl))

  pub join_quiet : (t n : ℕ) (w : World D) → Answers Unlocked (join t n w)
  join_quiet t n w = next (a_notify n w) _ (λ notifier. next (check notifier.notified Misuse) _ (λ u. next (takes_result t w) _ (λ taken. refl)))

  pub child_finish_quiet : (n : ℕ) (value : D) (w : World D) → Answers Unlocked (child_finish n value w)
  child_finish_quiet n value w = next (notify n w) _ (λ after. refl)

  delivers_quiet : (has_receiver : Bool) (channel : Channel D) (n : ℕ) (sent : List (Message D)) (message : Message D) (w : World D) → Answers Unlocked (delivers has_receiver channel n sent message w)
  delivers_quiet false channel n sent message w = next (found (first_of message.value) Misuse) _ (λ value. refl)
  delivers_quiet true channel n sent message w = next (check (fits_behind channel.messages sent) TooManySteps) _ (λ u. refl)

  pub sends_quiet : (n : ℕ) (sent : List (Message D)) (w : World D) → Answers Unlocked (sends n sent w)
  sends_quiet n sent w = next (by_sender n w) _ (λ channel. next (found (first_of sent) Misuse) _ (λ message. delivers_quiet channel.has_receiver channel n sent message w))

  receives_from_quiet : (by : Receiving) (n : ℕ) (channel : Channel D) (messages : List (Message D)) (w : World D) → Answers Unlocked (receives_from by n channel messages w)
  receives_from_quiet by n channel [] w = none_left_quiet D by
  receives_from_quiet by n channel (message ∷ rest) w = next (found (first_of message.value) Misuse) _ (λ value. refl)

  pub receives_quiet : (by : Receiving) (n : ℕ) (w : World D) → Answers Unlocked (receives by n w)
  receives_quiet by n w = next (by_receiver n w) _ (λ channel. receives_from_quiet by n channel channel.messages w)

  -- what goes on quietly gives no data of a mutex out
  pub passes_quietly : (r : Result (Passed D × World D) FailureKind) → Answers GoesQuietly r → Answers QuietPass r
  passes_quietly (Ok (passed.Turn (turn.Reply t reply), w)) h = h.1
  passes_quietly (Ok (passed.Turn (turn.Start t), w)) h = absurd h
  passes_quietly (Ok (passed.Turn (turn.Ended value), w)) h = absurd h
  passes_quietly (Ok (passed.AtBranch, w)) h = tt
  passes_quietly (Err kind) h = tt

  unwraps_quiet : (is_alone : Bool) (n : ℕ) (w : World D) → Answers QuietPass (unwraps_if is_alone n w)
  unwraps_quiet true n w = tt
  unwraps_quiet false n w = refl

  pub tries_unwrap_quiet : (n : ℕ) (w : World D) → Answers QuietPass (tries_unwrap n w)
  tries_unwrap_quiet n w = answers_then QuietPass (an_arc n w) _ (λ arc. answers_then QuietPass (check (is_free_arc arc) Misuse) _ (λ u. unwraps_quiet (arc.count == 1) n (acquires n w)))

  -- ---- the chosen thread has its turn, and gives no mutex free

  pub tells_turn : (freed : Option ℕ) (r : Result (Reply D × World D) FailureKind) (w : World D) → Fairly (Telling w) r → Fairly (Resuming freed w) (r >>= replied)
  tells_turn freed r w h = then_fairly (Telling w) (Resuming freed w) r replied h (λ answered told out other k. told out k)

  pub replied_resuming : (r : Result (Reply D × World D) FailureKind) (w : World D) → Keeping w r → Answers Unlocked r → Fairly (Resuming None w) (r >>= replied)
  replied_resuming r w kept quiet = tells_turn None r w (tells w r kept quiet)

  pub gone_resuming : (r : Result (Passed D × World D) FailureKind) (w : World D) → Keeping w r → Answers QuietPass r → Fairly (Resuming None w) (r >>= gone)
  gone_resuming r w kept quiet = then_fairly (Passing w) (Resuming None w) r gone (passes_on w r kept quiet) (λ answered passed out other k. passed out k)

  pub quietly_resuming : (r : Result (Passed D × World D) FailureKind) (w : World D) → Keeping w r → Answers GoesQuietly r → Fairly (Resuming None w) (r >>= gone)
  quietly_resuming r w kept quiet = gone_resuming r w kept (passes_quietly r quiet)

  -- an access that reads asks for a store
  abbrev pub IsLoading : Resumed D × World D → Type 0
  IsLoading (resumed.Load load, w) = Unit {0}
  IsLoading (resumed.Passed passed, w) = ⊥

  pub opens_loads : (n : ℕ) (reader : Reader) (access : AtomicOp) (w : World D) → Answers IsLoading (opens n reader access w)
  opens_loads n reader access w =
      answers_then IsLoading (raises w) _ (λ v. answers_then IsLoading (an_atomic n v) _ (λ atomic. answers_then IsLoading (readable_slots_of v.points v.active n reader) _ (λ readable.
      answers_then IsLoading (check (some_slot (slot_set readable)) Misuse) _ (λ u. tt))))
