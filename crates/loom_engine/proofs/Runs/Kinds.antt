-- What each kind of operation keeps, a line for each, and that equal states answer it alike.
use Rattle.std.proofs.Common.{◌≡◌, ℕ, Bool, true, false, List, Some, None, refl, inl}
use Rattle.std.specs.Prelude.{Ok, Result, ⊤}
use Rattle.loom_views.specs.Atomic.Slots.{slot_set}
use Rattle.loom_views.specs.Laws.Moves.{Moves}
use Rattle.loom_views.specs.Views.{Points, readable_slots_of}
use Rattle.loom_views.specs.declared.rt.atomic.reader.Reader.{Reader}
use Rattle.loom_views.specs.declared.rt.failure.FailureKind.{FailureKind}
use Rattle.loom_views.specs.declared.rt.failure.FailureKind.TheVariants.{TooManySteps}
use Rattle.loom_objects.specs.declared.operation.AtomicOp.{AtomicOp}
use Rattle.loom_objects.specs.declared.operation.ChannelOp.{ChannelOp}
use Rattle.loom_objects.specs.declared.operation.LazyOp.{LazyOp}
use Rattle.loom_objects.specs.declared.operation.Message.{Message}
use Rattle.loom_objects.specs.declared.operation.Request.{Request}
use Rattle.loom_objects.specs.declared.operation.Request.TheVariants as op
use Rattle.loom_objects.specs.declared.rt.run.Passed.{Passed}
use Rattle.loom_objects.specs.declared.rt.thread.Receiving.{Receiving}
use Rattle.loom_objects.specs.declared.rt.thread.Task.{Task}
use Rattle.loom_objects.specs.declared.rt.thread.Task.TheVariants as task
use Rattle.loom_objects.specs.Exploring.{is_switch}
use Rattle.loom_objects.specs.Rules.Arc.{counts, tries_unwrap}
use Rattle.loom_objects.specs.Rules.Condvar.{falls_asleep, relocks, wakes}
use Rattle.loom_objects.specs.Rules.Locals.{lazy_begins}
use Rattle.loom_objects.specs.Rules.Moves.{pends}
use Rattle.loom_objects.specs.Rules.Mpsc.{channel_begins, drains, receives, sends}
use Rattle.loom_objects.specs.Rules.Mutex.{lock, try_lock}
use Rattle.loom_objects.specs.Rules.Notify.{awaits, notifies, wakes_early}
use Rattle.loom_objects.specs.Rules.Replied.{gone}
use Rattle.loom_objects.specs.Rules.Rule.{◌>>=◌}
use Rattle.loom_objects.specs.Rules.RwLock.{claims}
use Rattle.loom_objects.specs.Rules.Tables.{needs_memory, op_begins, takes_effect}
use Rattle.loom_objects.specs.Rules.Thread.{child_finish, finish, join}
use Rattle.loom_objects.specs.Rules.Waker.{clones_waker, drops_waker, registers, takes_waker, wakes_by}
use Rattle.loom_objects.specs.World.{World}
use Rattle.loom_engine.specs.Covering.Points.{TellsMoves}
use Rattle.loom_engine.specs.Runs.Histories.{returned_by}
use Rattle.loom_engine.specs.Runs.Stores.{access_in_task}
use Rattle.loom_engine.proofs.Covering.Kinds.{arc_begins_so, atomic_waker_begins_so, awaits_so, channel_begins_so, child_finish_so, claims_so, clones_waker_so, condvar_begins_so, counts_so, drains_so, drops_waker_so, falls_asleep_so, join_so, lazy_begins_so, local_begins_so, lock_so, mutex_begins_so, notifies_so, notify_begins_so, receives_so, registers_so, relocks_so, rwlock_begins_so, sends_so, takes_waker_so, thread_begins_so, track_begins_so, tries_unwrap_so, try_lock_so, waker_begins_so, wakes_by_so, wakes_early_so, wakes_so}
use Rattle.loom_engine.proofs.Covering.Rules.{Follows, SeenSame, YieldsTell, accesses_so, answer_then, atomic_begins_so, cell_begins_so, fence_so, replied_so as answered_so, with_other}
use Rattle.loom_engine.proofs.Runs.Answering.{Answers, TellsActive, accesses_tells, by_passing, by_quiet, clones_waker_goes, drains_goes, drops_waker_goes, falls_asleep_passes, registers_goes, takes_waker_goes, told, tries_unwrap_passes, wakes_by_goes}
use Rattle.loom_engine.proofs.Runs.Growing.{Stays, arc_stays, atomic_stays, cell_stays, channel_stays, condvar_stays, fence_stays, lazy_stays, local_stays, mutex_stays, notifier_stays, place_stays, rwlock_stays, stayed, thread_stays, track_stays, waker_stays}
use Rattle.loom_engine.proofs.Runs.Kept.{KeptByMoves}
use Rattle.loom_engine.proofs.Runs.Kinds.Atomics.{accesses_resuming, atomic_begins_keeping, fence_keeping}
use Rattle.loom_engine.proofs.Runs.Kinds.Cells.{cell_begins_keeping}
use Rattle.loom_engine.proofs.Runs.Kinds.Channels.{channel_begins_keeping, drains_keeping, receives_keeping, sends_keeping}
use Rattle.loom_engine.proofs.Runs.Kinds.Condvars.{condvar_begins_entering, condvar_unswitched, falls_asleep_keeping, relocks_keeping, wakes_keeping}
use Rattle.loom_engine.proofs.Runs.Kinds.Counts.{arc_begins_keeping, counts_keeping, tries_unwrap_keeping}
use Rattle.loom_engine.proofs.Runs.Kinds.Mutexes.{lock_telling, mutex_begins_entering, mutex_unswitched, try_lock_telling}
use Rattle.loom_engine.proofs.Runs.Kinds.Notifiers.{awaits_keeping, notifier_begins_keeping, notifies_keeping, wakes_early_keeping}
use Rattle.loom_engine.proofs.Runs.Kinds.RwLocks.{claims_telling, rwlock_begins_entering}
use Rattle.loom_engine.proofs.Runs.Kinds.Threads.{child_finish_keeping, join_keeping, thread_begins_keeping}
use Rattle.loom_engine.proofs.Runs.Kinds.Tracks.{track_begins_keeping}
use Rattle.loom_engine.proofs.Runs.Kinds.Values.{lazy_begins_keeping, local_begins_keeping}
use Rattle.loom_engine.proofs.Runs.Kinds.Wakers.{clones_waker_keeping, drops_waker_keeping, place_begins_keeping, registers_keeping, takes_waker_keeping, waker_begins_keeping, wakes_by_keeping}
use Rattle.loom_engine.proofs.Runs.Moving.{Within, accesses_moves, arc_moves, atomic_moves, awaits_moves, cell_moves, child_finish_moves, claims_moves, clones_waker_moves, condvar_moves, counts_moves, drops_waker_moves, falls_asleep_moves, fence_moves, join_moves, local_moves, lock_moves, mutex_moves, notifier_moves, notifies_moves, passed_so, place_moves, registers_moves, relocks_moves, replied_so, rwlock_moves, takes_waker_moves, thread_moves, track_moves, tries_unwrap_moves, try_lock_moves, waker_moves, wakes_by_moves, wakes_early_moves, wakes_moves}
use Rattle.loom_engine.proofs.Runs.Pointing.{Does, In, MayBegin, MayBy, MayTake, Reading, ResumedIf, accesses_points, arc_points, atomic_points, awaits_points, by_passed, by_reply, cell_points, channel_points, child_finish_points, claims_points, clones_waker_points, condvar_points, counts_points, drains_points, drops_waker_points, falls_asleep_points, fence_points, join_points, lazy_points, local_points, lock_points, mutex_points, notifier_points, notifies_points, place_points, receives_points, registers_points, rwlock_points, sends_points, takes_waker_points, thread_points, track_points, tries_unwrap_points, try_lock_points, waker_points, wakes_by_points, wakes_early_points, wakes_points}
use Rattle.loom_engine.proofs.Runs.Replies.{Unswitched, arc_quiet, atomic_quiet, awaits_quiet, cell_quiet, channel_quiet, child_finish_quiet, counts_quiet, enters, fence_quiet, gone_resuming, join_quiet, lazy_quiet, local_quiet, notifier_quiet, notifies_quiet, place_quiet, quiet_unswitched, quietly_resuming, receives_quiet, replied_resuming, rwlock_quiet, sends_quiet, tells_turn, thread_quiet, track_quiet, tries_unwrap_quiet, waker_quiet, wakes_early_quiet, wakes_quiet}
use Rattle.loom_engine.proofs.Runs.Ruling.{Entering, Fairly, Freely, PassingBut, Resuming, freely, misuse, then_fairly}
use Rattle.loom_engine.proofs.Runs.States.{freed_by}
pub mod Atomics
pub mod Cells
pub mod Channels
pub mod Condvars
pub mod Counts
pub mod Mutexes
pub mod Notifiers
pub mod RwLocks
pub mod Threads
pub mod Tracks
pub mod Values
pub mod Wakers

module _ {D : Type 0} where
  -- ---- an operation begins

  -- locks stay sound, and it fails by itself
  pub begins_entering : (todo : Request D ⊤) (w : World D) → Fairly (Entering (returned_by todo) w) (op_begins todo w)
  begins_entering (op.Atomic todo) w = enters w None _ (atomic_begins_keeping todo w) (atomic_quiet todo w)
  begins_entering (op.Fence order) w = enters w None _ (fence_keeping order w) (fence_quiet order w)
  begins_entering (op.Cell todo) w = enters w None _ (cell_begins_keeping todo w) (cell_quiet todo w)
  begins_entering (op.Arc todo) w = enters w None _ (arc_begins_keeping todo w) (arc_quiet todo w)
  begins_entering (op.Track todo) w = enters w None _ (track_begins_keeping todo w) (track_quiet todo w)
  begins_entering (op.Mutex todo) w = mutex_begins_entering todo w
  begins_entering (op.RwLock todo) w = rwlock_begins_entering todo w
  begins_entering (op.Condvar todo) w = condvar_begins_entering todo w
  begins_entering (op.Notify todo) w = enters w None _ (notifier_begins_keeping todo w) (notifier_quiet todo w)
  begins_entering (op.Channel todo) w = enters w None _ (channel_begins_keeping todo w) (channel_quiet todo w)
  begins_entering (op.Waker todo) w = enters w None _ (waker_begins_keeping todo w) (waker_quiet todo w)
  begins_entering (op.AtomicWaker todo) w = enters w None _ (place_begins_keeping todo w) (place_quiet todo w)
  begins_entering (op.Local todo) w = enters w None _ (local_begins_keeping todo w) (local_quiet todo w)
  begins_entering (op.Lazy todo) w = enters w None _ (lazy_begins_keeping todo w) (lazy_quiet todo w)
  begins_entering (op.Explore todo) w = λ out other k. k
  begins_entering (op.Thread todo) w = enters w None _ (thread_begins_keeping todo w) (thread_quiet todo w)
  begins_entering op.Fail w = λ e. cc
  begins_entering op.Unreachable w = λ e. cc

  -- nothing is made without memory
  pub begins_stays : (todo : Request D ⊤) (w : World D) → needs_memory todo ≡ false → Answers (Stays w) (op_begins todo w)
  begins_stays (op.Atomic todo) w h = atomic_stays w todo h
  begins_stays (op.Fence order) w h = fence_stays w order
  begins_stays (op.Cell todo) w h = cell_stays w todo h
  begins_stays (op.Arc todo) w h = arc_stays w todo h
  begins_stays (op.Track todo) w h = track_stays w todo h
  begins_stays (op.Mutex todo) w h = mutex_stays w todo h
  begins_stays (op.RwLock todo) w h = rwlock_stays w todo h
  begins_stays (op.Condvar todo) w h = condvar_stays w todo h
  begins_stays (op.Notify todo) w h = notifier_stays w todo h
  begins_stays (op.Channel todo) w h = channel_stays w todo h
  begins_stays (op.Waker todo) w h = waker_stays w todo h
  begins_stays (op.AtomicWaker todo) w h = place_stays w todo h
  begins_stays (op.Local todo) w h = local_stays w todo h
  begins_stays (op.Lazy todo) w h = lazy_stays w todo h
  begins_stays (op.Explore todo) w h = stayed w
  begins_stays (op.Thread todo) w h = thread_stays w todo h
  begins_stays op.Fail w h = tt
  begins_stays op.Unreachable w h = tt

  -- the search isn't switched
  pub begins_unswitched : (todo : Request D ⊤) (w : World D) → is_switch todo ≡ false → Answers Unswitched (op_begins todo w)
  begins_unswitched (op.Atomic todo) w h = quiet_unswitched _ (atomic_quiet todo w)
  begins_unswitched (op.Fence order) w h = quiet_unswitched _ (fence_quiet order w)
  begins_unswitched (op.Cell todo) w h = quiet_unswitched _ (cell_quiet todo w)
  begins_unswitched (op.Arc todo) w h = quiet_unswitched _ (arc_quiet todo w)
  begins_unswitched (op.Track todo) w h = quiet_unswitched _ (track_quiet todo w)
  begins_unswitched (op.Mutex todo) w h = mutex_unswitched todo w
  begins_unswitched (op.RwLock todo) w h = quiet_unswitched _ (rwlock_quiet todo w)
  begins_unswitched (op.Condvar todo) w h = condvar_unswitched todo w
  begins_unswitched (op.Notify todo) w h = quiet_unswitched _ (notifier_quiet todo w)
  begins_unswitched (op.Channel todo) w h = quiet_unswitched _ (channel_quiet todo w)
  begins_unswitched (op.Waker todo) w h = quiet_unswitched _ (waker_quiet todo w)
  begins_unswitched (op.AtomicWaker todo) w h = quiet_unswitched _ (place_quiet todo w)
  begins_unswitched (op.Local todo) w h = quiet_unswitched _ (local_quiet todo w)
  begins_unswitched (op.Lazy todo) w h = quiet_unswitched _ (lazy_quiet todo w)
  begins_unswitched (op.Explore todo) w h = absurd (cc h)
  begins_unswitched (op.Thread todo) w h = quiet_unswitched _ (thread_quiet todo w)
  begins_unswitched op.Fail w h = tt
  begins_unswitched op.Unreachable w h = tt

  -- ---- what was pending takes effect

  -- locks stay sound, and it fails by itself, where no atomic is accessed
  pub effect_fairly : (todo : Task D) (w : World D) → access_in_task todo ≡ None → Fairly (Resuming (freed_by todo) w) (takes_effect todo w)
  effect_fairly task.Start w none = λ out other k. k
  effect_fairly task.Body w none = misuse
  effect_fairly task.Continue w none = λ out other k. (k, λ n e. absurd (cc e))
  effect_fairly (task.Access access) w none = absurd (cc none)
  effect_fairly (task.Lock locking n) w none = tells_turn None _ w (lock_telling locking n w)
  effect_fairly (task.TryLock n) w none = tells_turn None _ w (try_lock_telling n w)
  effect_fairly (task.Claim claim n) w none = tells_turn None _ w (claims_telling claim n w)
  effect_fairly (task.Wait locking n m value) w none =
      then_fairly (PassingBut m w) (Resuming (Some m) w) (falls_asleep locking n m value w) gone (falls_asleep_keeping locking n m value w) (λ answered onward out other k. onward out (λ e. other m e refl) k)
  effect_fairly (task.Relock locking m) w none = λ out other k. relocks_keeping locking m w out k
  effect_fairly (task.Wake waking n) w none = replied_resuming _ w (wakes_keeping waking n w) (wakes_quiet waking n w)
  effect_fairly (task.Notify n) w none = replied_resuming _ w (notifies_keeping n w) (notifies_quiet n w)
  effect_fairly (task.Await n) w none = replied_resuming _ w (awaits_keeping n w) (awaits_quiet n w)
  effect_fairly (task.Rouse n) w none = replied_resuming _ w (wakes_early_keeping n w) (wakes_early_quiet n w)
  effect_fairly (task.Count todo n) w none = replied_resuming _ w (counts_keeping todo n w) (counts_quiet todo n w)
  effect_fairly (task.TryUnwrap n) w none = gone_resuming _ w (tries_unwrap_keeping n w) (tries_unwrap_quiet n w)
  effect_fairly (task.Join t n) w none = replied_resuming _ w (join_keeping t n w) (join_quiet t n w)
  effect_fairly (task.Finish n value) w none = replied_resuming _ w (child_finish_keeping n value w) (child_finish_quiet n value w)
  effect_fairly (task.Send n sent) w none = replied_resuming _ w (sends_keeping n sent w) (sends_quiet n sent w)
  effect_fairly (task.Receive by n) w none = replied_resuming _ w (receives_keeping by n w) (receives_quiet by n w)
  effect_fairly (task.Drain n taken) w none = quietly_resuming _ w (drains_keeping n taken w) (drains_goes n taken w)
  effect_fairly (task.WakeBy n c after) w none = quietly_resuming _ w (wakes_by_keeping n c after w) (wakes_by_goes n c after w)
  effect_fairly (task.CloneWaker c place) w none = quietly_resuming _ w (clones_waker_keeping c place w) (clones_waker_goes c place w)
  effect_fairly (task.DropWaker c after) w none = quietly_resuming _ w (drops_waker_keeping c after w) (drops_waker_goes c after w)
  effect_fairly (task.Register p c) w none = quietly_resuming _ w (registers_keeping p c w) (registers_goes p c w)
  effect_fairly (task.TakeWaker by p) w none = quietly_resuming _ w (takes_waker_keeping by p w) (takes_waker_goes by p w)

  -- the same, but for a failure because orders are equal, where one is
  pub effect_resuming : (todo : Task D) (w : World D) → Freely (Resuming (freed_by todo) w) (takes_effect todo w)
  effect_resuming (task.Access access) w = accesses_resuming access w
  effect_resuming todo w = freely (Resuming (freed_by todo) w) (takes_effect todo w) (effect_fairly todo w refl)

  -- the active thread gets the reply
  pub effect_tells : (todo : Task D) (w : World D) → Answers TellsActive (takes_effect todo w)
  effect_tells task.Start w = refl
  effect_tells task.Body w = tt
  effect_tells task.Continue w = refl
  effect_tells (task.Access access) w = accesses_tells access w
  effect_tells (task.Lock locking n) w = told _
  effect_tells (task.TryLock n) w = told _
  effect_tells (task.Claim claim n) w = told _
  effect_tells (task.Wait locking n m value) w = by_passing _ (falls_asleep_passes locking n m value w)
  effect_tells (task.Relock locking m) w = tt
  effect_tells (task.Wake waking n) w = told _
  effect_tells (task.Notify n) w = told _
  effect_tells (task.Await n) w = told _
  effect_tells (task.Rouse n) w = told _
  effect_tells (task.Count todo n) w = told _
  effect_tells (task.TryUnwrap n) w = by_passing _ (tries_unwrap_passes n w)
  effect_tells (task.Join t n) w = told _
  effect_tells (task.Finish n value) w = told _
  effect_tells (task.Send n sent) w = told _
  effect_tells (task.Receive by n) w = told _
  effect_tells (task.Drain n taken) w = by_quiet _ (drains_goes n taken w)
  effect_tells (task.WakeBy n c after) w = by_quiet _ (wakes_by_goes n c after w)
  effect_tells (task.CloneWaker c place) w = by_quiet _ (clones_waker_goes c place w)
  effect_tells (task.DropWaker c after) w = by_quiet _ (drops_waker_goes c after w)
  effect_tells (task.Register p c) w = by_quiet _ (registers_goes p c w)
  effect_tells (task.TakeWaker by p) w = by_quiet _ (takes_waker_goes by p w)

-- this property is kept by all but what it says itself
module _ {D : Type 0} (R : World D → Type 0) (k : KeptByMoves R) where
  pub begins_moves : (todo : Request D ⊤) (w : World D) → ((asked : AtomicOp) → todo ≡ op.Atomic asked → R w → R (pends (task.Access asked) false w)) → ((value : D) → Answers (Within R) (finish value w))
      → ((asked : ChannelOp D) → todo ≡ op.Channel asked → Answers (Within R) (channel_begins asked w)) → ((todo : LazyOp D) → Answers (Within R) (lazy_begins todo w)) → R w → Answers (Within R) (op_begins todo w)
  begins_moves (op.Atomic todo) w a f c l s = atomic_moves R k todo w (a todo refl) s
  begins_moves (op.Fence order) w a f c l s = fence_moves R k order w s
  begins_moves (op.Cell todo) w a f c l s = cell_moves R k todo w s
  begins_moves (op.Arc todo) w a f c l s = arc_moves R k todo w s
  begins_moves (op.Track todo) w a f c l s = track_moves R k todo w s
  begins_moves (op.Mutex todo) w a f c l s = mutex_moves R k todo w s
  begins_moves (op.RwLock todo) w a f c l s = rwlock_moves R k todo w s
  begins_moves (op.Condvar todo) w a f c l s = condvar_moves R k todo w s
  begins_moves (op.Notify todo) w a f c l s = notifier_moves R k todo w s
  begins_moves (op.Channel todo) w a f c l s = c todo refl
  begins_moves (op.Waker todo) w a f c l s = waker_moves R k todo w s
  begins_moves (op.AtomicWaker todo) w a f c l s = place_moves R k todo w s
  begins_moves (op.Local todo) w a f c l s = local_moves R k todo w s
  begins_moves (op.Lazy todo) w a f c l s = l todo
  begins_moves (op.Explore todo) w a f c l s = s
  begins_moves (op.Thread todo) w a f c l s = thread_moves R k todo w f s
  begins_moves op.Fail w a f c l s = tt
  begins_moves op.Unreachable w a f c l s = tt

  pub effect_moves : (todo : Task D) (w : World D) → ((n : ℕ) (sent : List (Message D)) → todo ≡ task.Send n sent → Answers (Within R) (sends n sent w))
      → ((by : Receiving) (n : ℕ) → todo ≡ task.Receive by n → Answers (Within R) (receives by n w)) → ((n : ℕ) (taken : List D) → todo ≡ task.Drain n taken → Answers (Within R) (drains n taken w)) → R w → Answers (Within R) (takes_effect todo w)
  effect_moves task.Start w a b c s = s
  effect_moves task.Body w a b c s = tt
  effect_moves task.Continue w a b c s = s
  effect_moves (task.Access access) w a b c s = accesses_moves R k access w s
  effect_moves (task.Lock locking n) w a b c s = replied_so R k _ (lock_moves R k locking n w s)
  effect_moves (task.TryLock n) w a b c s = replied_so R k _ (try_lock_moves R k n w s)
  effect_moves (task.Claim claim n) w a b c s = replied_so R k _ (claims_moves R k claim n w s)
  effect_moves (task.Wait locking n m value) w a b c s = passed_so R k _ (falls_asleep_moves R k locking n m value w s)
  effect_moves (task.Relock locking m) w a b c s = relocks_moves R k locking m w s
  effect_moves (task.Wake waking n) w a b c s = replied_so R k _ (wakes_moves R k waking n w s)
  effect_moves (task.Notify n) w a b c s = replied_so R k _ (notifies_moves R k n w s)
  effect_moves (task.Await n) w a b c s = replied_so R k _ (awaits_moves R k n w s)
  effect_moves (task.Rouse n) w a b c s = replied_so R k _ (wakes_early_moves R k n w s)
  effect_moves (task.Count todo n) w a b c s = replied_so R k _ (counts_moves R k todo n w s)
  effect_moves (task.TryUnwrap n) w a b c s = passed_so R k _ (tries_unwrap_moves R k n w s)
  effect_moves (task.Join t n) w a b c s = replied_so R k _ (join_moves R k t n w s)
  effect_moves (task.Finish n value) w a b c s = replied_so R k _ (child_finish_moves R k n value w s)
  effect_moves (task.Send n sent) w a b c s = replied_so R k _ (a n sent refl)
  effect_moves (task.Receive by n) w a b c s = replied_so R k _ (b by n refl)
  effect_moves (task.Drain n taken) w a b c s = passed_so R k _ (c n taken refl)
  effect_moves (task.WakeBy n d after) w a b c s = passed_so R k _ (wakes_by_moves R k n d after w s)
  effect_moves (task.CloneWaker d place) w a b c s = passed_so R k _ (clones_waker_moves R k d place w s)
  effect_moves (task.DropWaker d after) w a b c s = passed_so R k _ (drops_waker_moves R k d after w s)
  effect_moves (task.Register p d) w a b c s = passed_so R k _ (registers_moves R k p d w s)
  effect_moves (task.TakeWaker by p) w a b c s = passed_so R k _ (takes_waker_moves R k by p w s)

-- a property of points is kept that moves keep which may be made
module _ (D : Type 0) (P : Points → Type 0) (May : Does → Type 0) (step : (p q : Points) (move : Moves p q) → MayBy May move → P p → P q) where
  pub begins_points : (todo : Request D ⊤) (w : World D) → MayBegin D P May step todo → P w.points → Answers (In D P May step) (op_begins todo w)
  begins_points (op.Atomic todo) w f s = atomic_points D P May step todo w f s
  begins_points (op.Fence order) w f s = fence_points D P May step order w f s
  begins_points (op.Cell todo) w f s = cell_points D P May step todo w s
  begins_points (op.Arc todo) w f s = arc_points D P May step todo w s
  begins_points (op.Track todo) w f s = track_points D P May step todo w s
  begins_points (op.Mutex todo) w f s = mutex_points D P May step todo w s
  begins_points (op.RwLock todo) w f s = rwlock_points D P May step todo w s
  begins_points (op.Condvar todo) w f s = condvar_points D P May step todo w s
  begins_points (op.Notify todo) w f s = notifier_points D P May step todo w s
  begins_points (op.Channel todo) w f s = channel_points D P May step todo w s
  begins_points (op.Waker todo) w f s = waker_points D P May step todo w s
  begins_points (op.AtomicWaker todo) w f s = place_points D P May step todo w s
  begins_points (op.Local todo) w f s = local_points D P May step todo w s
  begins_points (op.Lazy todo) w f s = lazy_points D P May step todo w s
  begins_points (op.Explore todo) w f s = s
  begins_points (op.Thread todo) w f s = thread_points D P May step todo w s
  begins_points op.Fail w f s = tt
  begins_points op.Unreachable w f s = tt

  -- an access that reads may read each slot that is such a one, of those that it is offered
  module _ (Offered : List Bool → ℕ → Type 0)
      (may_read : (raised : Points) (t n : ℕ) (reads : Reader) (slots : List ℕ) (slot : ℕ) → readable_slots_of raised t n reads ≡ Ok slots → Offered (slot_set slots) slot → May (Reading raised t n reads slot)) where
    pub effect_points : (todo : Task D) (w : World D) → MayTake D P May step todo → P w.points → Answers (ResumedIf D P May step Offered may_read) (takes_effect todo w)
    effect_points task.Start w may s = s
    effect_points task.Body w may s = tt
    effect_points task.Continue w may s = s
    effect_points (task.Access access) w may s = accesses_points D P May step Offered may_read access w may s
    effect_points (task.Lock locking n) w may s = by_reply D P May step Offered may_read _ (lock_points D P May step locking n w s)
    effect_points (task.TryLock n) w may s = by_reply D P May step Offered may_read _ (try_lock_points D P May step n w s)
    effect_points (task.Claim claim n) w may s = by_reply D P May step Offered may_read _ (claims_points D P May step claim n w s)
    effect_points (task.Wait locking n m value) w may s = by_passed D P May step Offered may_read _ (falls_asleep_points D P May step locking n m value w s)
    effect_points (task.Relock locking m) w may s = s
    effect_points (task.Wake waking n) w may s = by_reply D P May step Offered may_read _ (wakes_points D P May step waking n w s)
    effect_points (task.Notify n) w may s = by_reply D P May step Offered may_read _ (notifies_points D P May step n w s)
    effect_points (task.Await n) w may s = by_reply D P May step Offered may_read _ (awaits_points D P May step n w s)
    effect_points (task.Rouse n) w may s = by_reply D P May step Offered may_read _ (wakes_early_points D P May step n w s)
    effect_points (task.Count todo n) w may s = by_reply D P May step Offered may_read _ (counts_points D P May step todo n w s)
    effect_points (task.TryUnwrap n) w may s = by_passed D P May step Offered may_read _ (tries_unwrap_points D P May step n w s)
    effect_points (task.Join t n) w may s = by_reply D P May step Offered may_read _ (join_points D P May step t n w s)
    effect_points (task.Finish n value) w may s = by_reply D P May step Offered may_read _ (child_finish_points D P May step n value w s)
    effect_points (task.Send n sent) w may s = by_reply D P May step Offered may_read _ (sends_points D P May step n sent w s)
    effect_points (task.Receive by n) w may s = by_reply D P May step Offered may_read _ (receives_points D P May step by n w s)
    effect_points (task.Drain n taken) w may s = by_passed D P May step Offered may_read _ (drains_points D P May step n taken w s)
    effect_points (task.WakeBy n c after) w may s = by_passed D P May step Offered may_read _ (wakes_by_points D P May step n c after w s)
    effect_points (task.CloneWaker c place) w may s = by_passed D P May step Offered may_read _ (clones_waker_points D P May step c place w s)
    effect_points (task.DropWaker c after) w may s = by_passed D P May step Offered may_read _ (drops_waker_points D P May step c after w s)
    effect_points (task.Register p c) w may s = by_passed D P May step Offered may_read _ (registers_points D P May step p c w s)
    effect_points (task.TakeWaker by p) w may s = by_passed D P May step Offered may_read _ (takes_waker_points D P May step by p w s)

-- ---- in equal states it answers alike

module _ {D V : Type 0} (limits : FailureKind → Bool) (steps : limits TooManySteps ≡ true) (seen : Points → V) (see : List ℕ → List ℕ) (more : YieldsTell see) (tells : TellsMoves limits seen) where
  abbrev So : {A : Type 0} → Result (A × World D) FailureKind → Result (A × World D) FailureKind → Type 0
  So r s = Follows limits seen see r s

  abbrev Other : Points → ℕ → List ℕ → World D → World D
  Other q k y w = with_other limits seen see q k y w

  pub op_begins_so : (todo : Request D ⊤) (w : World D) (q : Points) (k : ℕ) (y : List ℕ) → SeenSame limits seen see w q y → So (op_begins todo w) (op_begins todo (Other q k y w))
  op_begins_so (op.Atomic todo) w q k y e = atomic_begins_so limits seen see tells todo w q k y e
  op_begins_so (op.Fence order) w q k y e = fence_so limits seen see tells order w q k y e
  op_begins_so (op.Cell todo) w q k y e = cell_begins_so limits seen see tells todo w q k y e
  op_begins_so (op.Arc todo) w q k y e = arc_begins_so limits steps seen see more tells todo w q k y e
  op_begins_so (op.Track todo) w q k y e = track_begins_so limits steps seen see more tells todo w q k y e
  op_begins_so (op.Mutex todo) w q k y e = mutex_begins_so limits steps seen see more tells todo w q k y e
  op_begins_so (op.RwLock todo) w q k y e = rwlock_begins_so limits steps seen see more tells todo w q k y e
  op_begins_so (op.Condvar todo) w q k y e = condvar_begins_so limits steps seen see more tells todo w q k y e
  op_begins_so (op.Notify todo) w q k y e = notify_begins_so limits steps seen see more tells todo w q k y e
  op_begins_so (op.Channel todo) w q k y e = channel_begins_so limits steps seen see more tells todo w q k y e
  op_begins_so (op.Waker todo) w q k y e = waker_begins_so limits steps seen see more tells todo w q k y e
  op_begins_so (op.AtomicWaker todo) w q k y e = atomic_waker_begins_so limits steps seen see more tells todo w q k y e
  op_begins_so (op.Local todo) w q k y e = local_begins_so limits steps seen see more tells todo w q k y e
  op_begins_so (op.Lazy todo) w q k y e = lazy_begins_so limits steps seen see more tells todo w q k y e
  op_begins_so (op.Explore todo) w q k y e = (refl, (_, _, _, e, refl))
  op_begins_so (op.Thread todo) w q k y e = thread_begins_so limits steps seen see more tells todo w q k y e
  op_begins_so op.Fail w q k y e = inl refl
  op_begins_so op.Unreachable w q k y e = inl refl

  gone_so : (r s : Result (Passed D × World D) FailureKind) → So r s → So (r >>= gone) (s >>= gone)
  gone_so r s h = answer_then limits seen see r s gone gone h (λ passed u p j z f. (refl, (_, _, _, f, refl)))

  pub takes_effect_so : (todo : Task D) (w : World D) (q : Points) (k : ℕ) (y : List ℕ) → SeenSame limits seen see w q y → So (takes_effect todo w) (takes_effect todo (Other q k y w))
  takes_effect_so task.Start w q k y e = (refl, (_, _, _, e, refl))
  takes_effect_so task.Body w q k y e = inl refl
  takes_effect_so task.Continue w q k y e = (refl, (_, _, _, e, refl))
  takes_effect_so (task.Access access) w q k y e = accesses_so limits seen see tells access w q k y e
  takes_effect_so (task.Lock how n) w q k y e = answered_so limits seen see tells (lock how n w) (lock how n (Other q k y w)) (lock_so limits steps seen see more tells how n w q k y e)
  takes_effect_so (task.TryLock n) w q k y e = answered_so limits seen see tells (try_lock n w) (try_lock n (Other q k y w)) (try_lock_so limits steps seen see more tells n w q k y e)
  takes_effect_so (task.Claim how n) w q k y e = answered_so limits seen see tells (claims how n w) (claims how n (Other q k y w)) (claims_so limits steps seen see more tells how n w q k y e)
  takes_effect_so (task.Wait how n m value) w q k y e = gone_so (falls_asleep how n m value w) (falls_asleep how n m value (Other q k y w)) (falls_asleep_so limits steps seen see more tells how n m value w q k y e)
  takes_effect_so (task.Relock how m) w q k y e = gone_so (relocks how m w) (relocks how m (Other q k y w)) (relocks_so limits steps seen see more tells how m w q k y e)
  takes_effect_so (task.Wake which n) w q k y e = answered_so limits seen see tells (wakes which n w) (wakes which n (Other q k y w)) (wakes_so limits steps seen see more tells which n w q k y e)
  takes_effect_so (task.Notify n) w q k y e = answered_so limits seen see tells (notifies n w) (notifies n (Other q k y w)) (notifies_so limits steps seen see more tells n w q k y e)
  takes_effect_so (task.Await n) w q k y e = answered_so limits seen see tells (awaits n w) (awaits n (Other q k y w)) (awaits_so limits steps seen see more tells n w q k y e)
  takes_effect_so (task.Rouse n) w q k y e = answered_so limits seen see tells (wakes_early n w) (wakes_early n (Other q k y w)) (wakes_early_so limits steps seen see more tells n w q k y e)
  takes_effect_so (task.Count todo n) w q k y e = answered_so limits seen see tells (counts todo n w) (counts todo n (Other q k y w)) (counts_so limits steps seen see more tells todo n w q k y e)
  takes_effect_so (task.TryUnwrap n) w q k y e = gone_so (tries_unwrap n w) (tries_unwrap n (Other q k y w)) (tries_unwrap_so limits steps seen see more tells n w q k y e)
  takes_effect_so (task.Join t n) w q k y e = answered_so limits seen see tells (join t n w) (join t n (Other q k y w)) (join_so limits steps seen see more tells t n w q k y e)
  takes_effect_so (task.Finish n value) w q k y e = answered_so limits seen see tells (child_finish n value w) (child_finish n value (Other q k y w)) (child_finish_so limits steps seen see more tells n value w q k y e)
  takes_effect_so (task.Send n sent) w q k y e = answered_so limits seen see tells (sends n sent w) (sends n sent (Other q k y w)) (sends_so limits steps seen see more tells n sent w q k y e)
  takes_effect_so (task.Receive by n) w q k y e = answered_so limits seen see tells (receives by n w) (receives by n (Other q k y w)) (receives_so limits steps seen see more tells by n w q k y e)
  takes_effect_so (task.Drain n taken) w q k y e = gone_so (drains n taken w) (drains n taken (Other q k y w)) (drains_so limits steps seen see more tells n taken w q k y e)
  takes_effect_so (task.WakeBy n c later) w q k y e = gone_so (wakes_by n c later w) (wakes_by n c later (Other q k y w)) (wakes_by_so limits steps seen see more tells n c later w q k y e)
  takes_effect_so (task.CloneWaker c place) w q k y e = gone_so (clones_waker c place w) (clones_waker c place (Other q k y w)) (clones_waker_so limits steps seen see more tells c place w q k y e)
  takes_effect_so (task.DropWaker c later) w q k y e = gone_so (drops_waker c later w) (drops_waker c later (Other q k y w)) (drops_waker_so limits steps seen see more tells c later w q k y e)
  takes_effect_so (task.Register p c) w q k y e = gone_so (registers p c w) (registers p c (Other q k y w)) (registers_so limits steps seen see more tells p c w q k y e)
  takes_effect_so (task.TakeWaker by p) w q k y e = gone_so (takes_waker by p w) (takes_waker by p (Other q k y w)) (takes_waker_so limits steps seen see more tells by p w q k y e)
