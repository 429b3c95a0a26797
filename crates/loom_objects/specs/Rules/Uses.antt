-- What the pending operation of each thread does to its object, and what may not be left of an object.
use Rattle.std.specs.Prelude.{ℕ, nat_lt, Bool, true, false, List, [], ◌∷◌, map, if◌then◌else◌, Option, Some, None, slice_get}
use Rattle.std.specs.Option.{option_map}
use Rattle.loom_views.specs.declared.rt.failure.FailureKind.{FailureKind}
use Rattle.loom_views.specs.declared.rt.failure.FailureKind.TheVariants.{LeakArc, LeakMessages, LeakTrack}
use Rattle.loom_objects.specs.declared.rt.dependence.Action.{Action}
use Rattle.loom_objects.specs.declared.rt.dependence.Action.TheVariants.{Read, Change, Increment, Decrement, Inspect, Send, Receive, Other}
use Rattle.loom_objects.specs.declared.rt.dependence.Use.{Use}
use Rattle.loom_objects.specs.declared.operation.AtomicOp.{AtomicOp}
use Rattle.loom_objects.specs.declared.operation.AtomicOp.TheVariants as atomic
use Rattle.loom_objects.specs.declared.rt.object.Object.{Object}
use Rattle.loom_objects.specs.declared.rt.object.Object.TheVariants as object
use Rattle.loom_objects.specs.declared.rt.thread.Counting.{Counting}
use Rattle.loom_objects.specs.declared.rt.thread.Counting.TheVariants.{Clone, Drop, GetMut, Unwrap, StrongCount}
use Rattle.loom_objects.specs.declared.rt.thread.Task.{Task}
use Rattle.loom_objects.specs.declared.rt.thread.Task.TheVariants as task
use Rattle.loom_objects.specs.declared.rt.thread.Thread.{Thread}
use Rattle.loom_objects.specs.Operation.Accessed.{accessed}
use Rattle.loom_objects.specs.World.{World}

-- an access to an atomic changes it, or may, unless it is a load
abbrev pub atomic_action : AtomicOp → Action
atomic_action (atomic.Load n order) = Read
atomic_action _ = Change

-- to take the value out, or to be the one reference alone, counts as a drop
abbrev pub counting_action : Counting → Action
counting_action Clone = Increment
counting_action Drop = Decrement
counting_action GetMut = Decrement
counting_action Unwrap = Decrement
counting_action StrongCount = Inspect

abbrev pub used : Action → ℕ → Use
used action n = record { object = n; action = action }

-- a list without values
abbrev pub is_none_left : {A : Type 0} → List A → Bool
is_none_left [] = true
is_none_left (a ∷ rest) = false

module _ {D : Type 0} where
  -- the object that the thread's pending operation is on, and what it does to it
  abbrev pub use_of : Task D → Option Use
  use_of task.Start = None
  use_of task.Body = None
  use_of (task.Access access) = option_map (used (atomic_action access)) (accessed access)
  use_of task.Continue = None
  use_of (task.Lock locking n) = Some (used Other n)
  use_of (task.TryLock n) = Some (used Other n)
  use_of (task.Claim claim n) = Some (used Other n)
  use_of (task.Wait locking n m value) = Some (used Other n)
  use_of (task.Relock locking m) = None
  use_of (task.Wake waking n) = Some (used Other n)
  use_of (task.Notify n) = Some (used Other n)
  use_of (task.Await n) = Some (used Other n)
  use_of (task.Rouse n) = None
  use_of (task.Count counting n) = Some (used (counting_action counting) n)
  use_of (task.TryUnwrap n) = Some (used Decrement n)
  use_of (task.Join t n) = Some (used Other n)
  use_of (task.Finish n value) = Some (used Other n)
  use_of (task.Send n sent) = Some (used Send n)
  use_of (task.Receive receiving n) = Some (used Receive n)
  use_of (task.Drain n taken) = Some (used Receive n)
  use_of (task.WakeBy n c after) = Some (used Other n)
  use_of (task.CloneWaker c place) = Some (used Increment c)
  use_of (task.DropWaker c after) = Some (used Decrement c)
  use_of (task.Register p c) = Some (used Other p)
  use_of (task.TakeWaker taking p) = Some (used Other p)

  abbrev pub use_by : Option (Thread D) → Option Use
  use_by None = None
  use_by (Some thread) = use_of thread.task

  abbrev pub use_at : List (Thread D) → ℕ → Option Use
  use_at threads t = use_by (slice_get threads t)

  -- of each of the five threads, whatever its state
  abbrev pub uses : World D → List (Option Use)
  uses w = map (use_at w.threads) (0 ∷ 1 ∷ 2 ∷ 3 ∷ 4 ∷ [])

  -- the leak of an object that is left: a reference or a waker that wasn't dropped, a value that wasn't given back, or a message
  -- that wasn't received; objects of other kinds may be left
  abbrev pub leak_of : Object D → Option FailureKind
  leak_of (object.Arc arc) = if nat_lt 0 arc.count then Some LeakArc else None
  leak_of (object.Track track) = if track.content.is_taken then None else Some LeakTrack
  leak_of (object.Channel channel) = if is_none_left channel.messages then None else Some LeakMessages
  leak_of (object.Wakers wakers) = if nat_lt 0 wakers.count then Some LeakArc else None
  leak_of (object.Atomic atomic) = None
  leak_of (object.Mutex mutex) = None
  leak_of (object.RwLock lock) = None
  leak_of (object.Condvar condvar) = None
  leak_of (object.Notify notifier) = None
  leak_of (object.Cell cell) = None
  leak_of (object.AtomicWaker place) = None
