-- Threads and objects by number, and how threads wait for objects.
use Rattle.std.specs.Prelude.{ℕ, ◌+◌, Bool, true, false, [], ◌∷◌, List, ◌++◌, map, cond, nat_lt, slice_get, slice_index, slice_set, Option, Some, None, Result, Ok, ⊤}
use Rattle.std.specs.Option.{option_map}
use Rattle.std.specs.declared.sync.atomic.Ordering.TheVariants.{Release, AcqRel}
use Rattle.loom_views.specs.declared.rt.failure.FailureKind.{FailureKind}
use Rattle.loom_views.specs.declared.rt.failure.FailureKind.TheVariants.{Misuse, TooManySteps}
use Rattle.loom_views.specs.Views.{Points, points_after_raise, points_after_acquire, points_after_release, points_after_join, points_after_yield, points_with_point, points_with_stamp, points_after_stamp, points_after_stamp_release, points_after_stamp_acquire}
use Rattle.loom_views.specs.Limits.{highest_count}
use Rattle.loom_objects.specs.declared.rt.object.Object.{Object}
use Rattle.loom_objects.specs.declared.rt.arc.Arc.{Arc}
use Rattle.loom_objects.specs.declared.rt.atomic.Atomic.{Atomic}
use Rattle.loom_objects.specs.declared.rt.cell.Cell.{Cell}
use Rattle.loom_objects.specs.declared.rt.condvar.Condvar.{Condvar}
use Rattle.loom_objects.specs.declared.rt.mutex.Mutex.{Mutex}
use Rattle.loom_objects.specs.declared.rt.notify.Notify.{Notify}
use Rattle.loom_objects.specs.declared.rt.rwlock.RwLock.{RwLock}
use Rattle.loom_objects.specs.declared.rt.alloc.Track.{Track}
use Rattle.loom_objects.specs.declared.rt.mpsc.Channel.{Channel}
use Rattle.loom_objects.specs.declared.rt.waker.Wakers.{Wakers}
use Rattle.loom_objects.specs.declared.rt.atomic_waker.AtomicWaker.{AtomicWaker}
use Rattle.loom_objects.specs.declared.rt.thread.Thread.{Thread}
use Rattle.loom_objects.specs.declared.rt.thread.State.{State}
use Rattle.loom_objects.specs.declared.rt.thread.State.TheVariants.{Runnable, Blocked, Parked, Sleeping, Yielding, Ended}
use Rattle.loom_objects.specs.declared.rt.thread.Phase.{Phase}
use Rattle.loom_objects.specs.declared.rt.thread.Claim.TheVariants.{Write, TryWrite}
use Rattle.loom_objects.specs.declared.rt.thread.Task.{Task}
use Rattle.loom_objects.specs.declared.rt.thread.Task.TheVariants as task
use Rattle.loom_objects.specs.Scene.Lookup.{atomic_at, mutex_at, rwlock_at, condvar_at, notify_at, cell_at, arc_at, track_at, channel_at, wakers_at, atomic_waker_at}
use Rattle.loom_objects.specs.Rules.Uses.{use_of}
use Rattle.loom_objects.specs.Rules.Rule.{◌>>=◌, check, found}
use Rattle.loom_objects.specs.World.{World}
pub use Rattle.loom_objects.specs.Lent.{is_number}

-- the state of a thread at a branch point: one that isn't blocked there stays as it is
abbrev pub blocked_if : Bool → State → State
blocked_if true state = Blocked
blocked_if false state = state

-- the first thread, if there is one, takes in the view of the other
abbrev pub joined_points : Option ℕ → ℕ → Points → Points
joined_points None active p = p
joined_points (Some t) active p = points_after_join p t active

-- ---- a list of threads

module _ {D : Type 0} where
  -- the thread of this number; any other number is a misuse
  abbrev pub a_thread : ℕ → List (Thread D) → Result (Thread D) FailureKind
  a_thread t threads = found (slice_get threads t) Misuse

  abbrev pub changed_at : (Thread D → Thread D) → ℕ → Option (Thread D) → List (Thread D) → List (Thread D)
  changed_at change t None threads = threads
  changed_at change t (Some thread) threads = slice_set threads t (change thread)

  -- thread t, if there is one, is changed so
  abbrev pub with_thread : (Thread D → Thread D) → ℕ → List (Thread D) → List (Thread D)
  with_thread change t threads = changed_at change t (slice_get threads t) threads

  -- the thread has this pending, and can't go on while it is blocked
  abbrev pub pending : Task D → Bool → Thread D → Thread D
  pending todo is_blocked thread = record thread { state = blocked_if is_blocked thread.state; task = todo }

  -- it rests in this state, and then has this pending
  abbrev pub resting : State → Task D → Thread D → Thread D
  resting state todo thread = record thread { state = state; task = todo }

  -- it can go on
  abbrev pub running : Thread D → Thread D
  running thread = record thread { state = Runnable }

  -- its end has come so far
  abbrev pub at_phase : Phase → Thread D → Thread D
  at_phase phase thread = record thread { phase = phase }

  -- it is in this state
  abbrev pub in_state : State → Thread D → Thread D
  in_state state thread = record thread { state = state }

  -- it has this result
  abbrev pub having : D → Thread D → Thread D
  having value thread = record thread { result = Some value }

  -- it has a token or none
  abbrev pub with_token : Bool → Thread D → Thread D
  with_token has_token thread = record thread { has_token = has_token }

  abbrev pub unparked_from : State → Thread D → Thread D
  unparked_from Parked thread = record thread { state = Runnable }
  unparked_from Ended thread = thread
  unparked_from Runnable thread = record thread { has_token = true }
  unparked_from Blocked thread = record thread { has_token = true }
  unparked_from Sleeping thread = record thread { has_token = true }
  unparked_from Yielding thread = record thread { has_token = true }

  -- one that is parked can go on, one that has ended stays so, and any other has a token, one at most
  abbrev pub unparked : Thread D → Thread D
  unparked thread = unparked_from thread.state thread

  -- it is in the yield state, and has this pending
  abbrev pub yielded : Task D → Thread D → Thread D
  yielded todo thread = record thread { state = Yielding; task = todo }

  -- the object that the thread's pending operation is on
  abbrev pub target : Task D → Option ℕ
  target task = option_map (λ used. used.object) (use_of task)

  -- a thread that is pending on object n gets the state
  abbrev pub pending_with : ℕ → State → Thread D → Thread D
  pending_with n state thread = cond (is_number (target thread.task) n) (record thread { state = state }) thread

  -- the read-write lock that it is about to take for writing
  abbrev pub written : Task D → Option ℕ
  written (task.Claim Write n) = Some n
  written (task.Claim TryWrite n) = Some n
  written _ = None

  -- the channel that it is about to receive from
  abbrev pub received_from : Task D → Option ℕ
  received_from (task.Receive receiving n) = Some n
  received_from (task.Drain n taken) = Some n
  received_from _ = None

  abbrev pub receiving_with : ℕ → State → Thread D → Thread D
  receiving_with n state thread = cond (is_number (received_from thread.task) n) (record thread { state = state }) thread

  abbrev pub writing_with : ℕ → State → Thread D → Thread D
  writing_with n state thread = cond (is_number (written thread.task) n) (record thread { state = state }) thread

-- ---- moves of the machine

module _ {D : Type 0} where
  -- the points are now these
  abbrev pub with_points : Points → World D → World D
  with_points points w = record w { points = points }

  -- the active thread raises its version
  abbrev pub raises : World D → Result (World D) FailureKind
  raises w = do
    points ← points_after_raise w.points w.active
    Ok (with_points points w)

  -- it acquires what object n has
  abbrev pub acquires : ℕ → World D → World D
  acquires n w = with_points (points_after_acquire w.points w.active n) w

  -- a stamp more, which nobody has released to
  abbrev pub with_stamp : World D → World D
  with_stamp w = with_points (points_with_stamp w.points) w

  -- the stamp of number m is the point of object n, as that is now
  abbrev pub stamps : ℕ → ℕ → World D → World D
  stamps n m w = with_points (points_after_stamp w.points n m) w

  -- the active thread releases to the stamp of number m, or acquires from it
  abbrev pub releases_to_stamp : ℕ → World D → World D
  releases_to_stamp m w = with_points (points_after_stamp_release w.points w.active m AcqRel) w

  abbrev pub acquires_from_stamp : ℕ → World D → World D
  acquires_from_stamp m w = with_points (points_after_stamp_acquire w.points w.active m) w

  -- it releases to object n
  abbrev pub releases : ℕ → World D → World D
  releases n w = with_points (points_after_release w.points w.active n Release) w

  -- the thread of this number, if there is one, takes in the active thread's view
  abbrev pub joins_view : Option ℕ → World D → World D
  joins_view thread w = with_points (joined_points thread w.active w.points) w

  -- the thread whose turn it is
  abbrev pub active_thread : World D → Result (Thread D) FailureKind
  active_thread w = found (slice_get w.threads w.active) Misuse

  -- that thread is now so
  abbrev pub with_active : Thread D → World D → World D
  with_active thread w = record w { threads = slice_set w.threads w.active thread }

  -- that thread is changed so
  abbrev pub changes_active : (Thread D → Thread D) → World D → World D
  changes_active change w = record w { threads = with_thread change w.active w.threads }

  -- the object of this number, of its kind; any other number is a misuse
  abbrev pub an_atomic : ℕ → World D → Result Atomic FailureKind
  an_atomic n w = atomic_at n w.objects

  abbrev pub a_mutex : ℕ → World D → Result (Mutex D) FailureKind
  a_mutex n w = mutex_at n w.objects

  abbrev pub a_rwlock : ℕ → World D → Result (RwLock D) FailureKind
  a_rwlock n w = rwlock_at n w.objects

  abbrev pub a_condvar : ℕ → World D → Result Condvar FailureKind
  a_condvar n w = condvar_at n w.objects

  abbrev pub a_notify : ℕ → World D → Result Notify FailureKind
  a_notify n w = notify_at n w.objects

  abbrev pub a_cell : ℕ → World D → Result (Cell D) FailureKind
  a_cell n w = cell_at n w.objects

  abbrev pub an_arc : ℕ → World D → Result (Arc D) FailureKind
  an_arc n w = arc_at n w.objects

  abbrev pub a_track : ℕ → World D → Result (Track D) FailureKind
  a_track n w = track_at n w.objects

  abbrev pub a_channel : ℕ → World D → Result (Channel D) FailureKind
  a_channel n w = channel_at n w.objects

  abbrev pub a_wakers : ℕ → World D → Result Wakers FailureKind
  a_wakers n w = wakers_at n w.objects

  abbrev pub an_atomic_waker : ℕ → World D → Result AtomicWaker FailureKind
  an_atomic_waker n w = atomic_waker_at n w.objects

  -- the wakers of this number, of which there is one at least
  abbrev pub some_wakers : ℕ → World D → Result Wakers FailureKind
  some_wakers c w = do
    wakers ← a_wakers c w
    _ ← check (nat_lt 0 wakers.count) Misuse
    Ok wakers

  -- the object of this number is now so
  abbrev pub with_object : ℕ → Object D → World D → World D
  with_object n object w = record w { objects = slice_set w.objects n object }

  -- a new object, whose number is how many there were, and at which no thread has synchronized
  abbrev pub with_new : Object D → World D → World D
  with_new object w = record w { objects = w.objects ++ object ∷ []; points = points_with_point w.points }

  -- Wake the pending, block the pending. The active thread has nothing pending when this happens, so it stays as it is.
  abbrev pub wakes_pending : ℕ → World D → World D
  wakes_pending n w = record w { threads = map (pending_with n Runnable) w.threads }

  abbrev pub blocks_pending : ℕ → World D → World D
  blocks_pending n w = record w { threads = map (pending_with n Blocked) w.threads }

  -- the pending are woken, or nobody is
  abbrev pub wakes_if : Bool → ℕ → World D → World D
  wakes_if true n w = wakes_pending n w
  wakes_if false n w = w

  -- who is pending to write lock n can't go on
  abbrev pub blocks_writers : ℕ → World D → World D
  blocks_writers n w = record w { threads = map (writing_with n Blocked) w.threads }

  -- who is pending to receive from channel n can't go on
  abbrev pub blocks_receivers : ℕ → World D → World D
  blocks_receivers n w = record w { threads = map (receiving_with n Blocked) w.threads }

  -- the active thread has this pending, and can't go on while it is blocked
  abbrev pub pends : Task D → Bool → World D → World D
  pends todo is_blocked w = changes_active (pending todo is_blocked) w

  -- it rests in this state, and then has this pending
  abbrev pub rests : State → Task D → World D → World D
  rests state todo w = changes_active (resting state todo) w

  -- the result of this thread is taken out; a misuse where there is none
  abbrev pub takes_result : ℕ → World D → Result (D × World D) FailureKind
  takes_result t w = do
    thread ← found (slice_get w.threads t) Misuse
    value ← found thread.result Misuse
    Ok (value, record w { threads = slice_set w.threads t (record thread { result = None }) })

  -- the thread of this number can go on if it is parked, and has a token unless it has ended; a misuse where there is none
  abbrev pub unparks : ℕ → World D → Result (⊤ × World D) FailureKind
  unparks t w = do
    _ ← found (slice_get w.threads t) Misuse
    Ok (tt, record w { threads = with_thread unparked t w.threads })

  -- the thread of this number takes in the active thread's view, and can go on
  abbrev pub rouses : ℕ → World D → World D
  rouses t w = joins_view (Some t) (record w { threads = with_thread running t w.threads })

  -- these threads, one after the other
  abbrev pub rouses_all : List ℕ → World D → World D
  rouses_all [] w = w
  rouses_all (t ∷ rest) w = rouses_all rest (rouses t w)

  -- the active thread has yielded once more
  abbrev pub yields_more : World D → World D
  yields_more w = record w { yields = slice_set w.yields w.active (slice_index w.yields w.active + 1) }

  -- the active thread is in the yield state and has this pending: its own version is kept as that of its last yield. A run ends
  -- before a thread has yielded 2^64 times, since each is an operation
  abbrev pub yields : Task D → World D → Result (⊤ × World D) FailureKind
  yields todo w = do
    _ ← active_thread w
    _ ← check (nat_lt (slice_index w.yields w.active) highest_count) TooManySteps
    Ok (tt, with_points (points_after_yield w.points w.active) (yields_more (changes_active (yielded todo) w)))
