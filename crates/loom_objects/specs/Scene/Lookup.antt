-- Objects by their numbers.
use Rattle.std.specs.Prelude.{ℕ, List, cond, slice_get, Option, Some, None, Result, Ok, Err}
use Rattle.std.specs.Borrow.{Bor, MutBor}
use Rattle.loom_views.specs.declared.rt.failure.FailureKind.{FailureKind}
use Rattle.loom_views.specs.declared.rt.failure.FailureKind.TheVariants.{Misuse}
use Rattle.loom_objects.specs.declared.rt.object.Object.{Object}
use Rattle.loom_objects.specs.declared.rt.object.Object.TheVariants as object
use Rattle.loom_objects.specs.declared.rt.atomic.Atomic.{Atomic}
use Rattle.loom_objects.specs.declared.rt.mutex.Mutex.{Mutex}
use Rattle.loom_objects.specs.declared.rt.rwlock.RwLock.{RwLock}
use Rattle.loom_objects.specs.declared.rt.condvar.Condvar.{Condvar}
use Rattle.loom_objects.specs.declared.rt.notify.Notify.{Notify}
use Rattle.loom_objects.specs.declared.rt.cell.Cell.{Cell}
use Rattle.loom_objects.specs.declared.rt.arc.Arc.{Arc}
use Rattle.loom_objects.specs.declared.rt.alloc.Track.{Track}
use Rattle.loom_objects.specs.declared.rt.mpsc.Channel.{Channel}
use Rattle.loom_objects.specs.declared.rt.waker.Wakers.{Wakers}
use Rattle.loom_objects.specs.declared.rt.atomic_waker.AtomicWaker.{AtomicWaker}

-- what the reference shows now
abbrev pub now_of : {A : Type 0} → Result (MutBor A) FailureKind → Result A FailureKind
now_of (Ok r) = Ok r.now
now_of (Err kind) = Err kind

-- what the shared reference shows
abbrev pub shown_of : {A : Type 0} → Result (Bor A) FailureKind → Result A FailureKind
shown_of (Ok r) = Ok r.now
shown_of (Err kind) = Err kind

-- what is found, or a misuse
abbrev pub looked_up : {A B : Type 0} → (A → Result B FailureKind) → Option A → Result B FailureKind
looked_up as_kind (Some a) = as_kind a
looked_up as_kind None = Err Misuse

module _ {D : Type 0} where
  -- the object of this number; any other number is a misuse
  abbrev pub object_at : ℕ → List (Object D) → Result (Object D) FailureKind
  object_at n objects = looked_up Ok (slice_get objects n)

  -- the atomic that the object is, unless it was taken apart; any other object is a misuse
  abbrev pub atomic_in : Object D → Result Atomic FailureKind
  atomic_in (object.Atomic atomic) = cond atomic.is_taken (Err Misuse) (Ok atomic)
  atomic_in _ = Err Misuse

  abbrev pub atomic_at : ℕ → List (Object D) → Result Atomic FailureKind
  atomic_at n objects = looked_up atomic_in (slice_get objects n)

  -- the mutex that the object is, unless it was taken apart; any other object is a misuse
  abbrev pub mutex_in : Object D → Result (Mutex D) FailureKind
  mutex_in (object.Mutex mutex) = cond mutex.content.is_taken (Err Misuse) (Ok mutex)
  mutex_in _ = Err Misuse

  abbrev pub mutex_at : ℕ → List (Object D) → Result (Mutex D) FailureKind
  mutex_at n objects = looked_up mutex_in (slice_get objects n)

  -- the read-write lock that the object is, unless it was taken apart; any other object is a misuse
  abbrev pub rwlock_in : Object D → Result (RwLock D) FailureKind
  rwlock_in (object.RwLock lock) = cond lock.content.is_taken (Err Misuse) (Ok lock)
  rwlock_in _ = Err Misuse

  abbrev pub rwlock_at : ℕ → List (Object D) → Result (RwLock D) FailureKind
  rwlock_at n objects = looked_up rwlock_in (slice_get objects n)

  -- the condition variable that the object is; any other object is a misuse
  abbrev pub condvar_in : Object D → Result Condvar FailureKind
  condvar_in (object.Condvar condvar) = Ok condvar
  condvar_in _ = Err Misuse

  abbrev pub condvar_at : ℕ → List (Object D) → Result Condvar FailureKind
  condvar_at n objects = looked_up condvar_in (slice_get objects n)

  -- the notifier that the object is; any other object is a misuse
  abbrev pub notify_in : Object D → Result Notify FailureKind
  notify_in (object.Notify notify) = Ok notify
  notify_in _ = Err Misuse

  abbrev pub notify_at : ℕ → List (Object D) → Result Notify FailureKind
  notify_at n objects = looked_up notify_in (slice_get objects n)

  -- the cell that the object is, unless it was taken apart; any other object is a misuse
  abbrev pub cell_in : Object D → Result (Cell D) FailureKind
  cell_in (object.Cell cell) = cond cell.content.is_taken (Err Misuse) (Ok cell)
  cell_in _ = Err Misuse

  abbrev pub cell_at : ℕ → List (Object D) → Result (Cell D) FailureKind
  cell_at n objects = looked_up cell_in (slice_get objects n)

  -- the counted reference that the object is; any other object is a misuse
  abbrev pub arc_in : Object D → Result (Arc D) FailureKind
  arc_in (object.Arc arc) = Ok arc
  arc_in _ = Err Misuse

  abbrev pub arc_at : ℕ → List (Object D) → Result (Arc D) FailureKind
  arc_at n objects = looked_up arc_in (slice_get objects n)

  -- the tracked value that the object is; any other object is a misuse
  abbrev pub track_in : Object D → Result (Track D) FailureKind
  track_in (object.Track track) = Ok track
  track_in _ = Err Misuse

  abbrev pub track_at : ℕ → List (Object D) → Result (Track D) FailureKind
  track_at n objects = looked_up track_in (slice_get objects n)

  -- the channel that the object is; any other object is a misuse
  abbrev pub channel_in : Object D → Result (Channel D) FailureKind
  channel_in (object.Channel channel) = Ok channel
  channel_in _ = Err Misuse

  abbrev pub channel_at : ℕ → List (Object D) → Result (Channel D) FailureKind
  channel_at n objects = looked_up channel_in (slice_get objects n)

  -- the count of wakers that the object is; any other object is a misuse
  abbrev pub wakers_in : Object D → Result Wakers FailureKind
  wakers_in (object.Wakers wakers) = Ok wakers
  wakers_in _ = Err Misuse

  abbrev pub wakers_at : ℕ → List (Object D) → Result Wakers FailureKind
  wakers_at n objects = looked_up wakers_in (slice_get objects n)

  -- the place for a waker that the object is; any other object is a misuse
  abbrev pub atomic_waker_in : Object D → Result AtomicWaker FailureKind
  atomic_waker_in (object.AtomicWaker place) = Ok place
  atomic_waker_in _ = Err Misuse

  abbrev pub atomic_waker_at : ℕ → List (Object D) → Result AtomicWaker FailureKind
  atomic_waker_at n objects = looked_up atomic_waker_in (slice_get objects n)
