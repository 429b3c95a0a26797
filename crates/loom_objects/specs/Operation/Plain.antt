-- An operation apart from what it starts.
use Rattle.std.specs.Prelude.{Option, Some, None, ⊤}
use Rattle.loom_objects.specs.Operation.Labelled.{Op}
use Rattle.loom_objects.specs.declared.operation.Request.{Request}
use Rattle.loom_objects.specs.declared.operation.Request.TheVariants.{Atomic, Fence, Cell, Arc, Track, Mutex, RwLock, Condvar, Notify, Channel, Waker, AtomicWaker, Local, Lazy, Explore, Thread, Fail, Unreachable}
use Rattle.loom_objects.specs.declared.operation.ThreadOp.{ThreadOp}
use Rattle.loom_objects.specs.declared.operation.ThreadOp.TheVariants.{Spawn, Join, Current, Park, Unpark, Yield, Finish, Exit, End}

-- the operation, with what it starts put through the function
abbrev pub map_thread : {D S T : Type 0} → (S → T) → ThreadOp D S → ThreadOp D T
map_thread f (Spawn body name) = Spawn (f body) name
map_thread f (Join thread notifier) = Join thread notifier
map_thread f Current = Current
map_thread f Park = Park
map_thread f (Unpark thread) = Unpark thread
map_thread f Yield = Yield
map_thread f (Finish value) = Finish value
map_thread f Exit = Exit
map_thread f End = End

abbrev pub map_started : {D S T : Type 0} → (S → T) → Request D S → Request D T
map_started f (Atomic op) = Atomic op
map_started f (Fence order) = Fence order
map_started f (Cell op) = Cell op
map_started f (Arc op) = Arc op
map_started f (Track op) = Track op
map_started f (Mutex op) = Mutex op
map_started f (RwLock op) = RwLock op
map_started f (Condvar op) = Condvar op
map_started f (Notify op) = Notify op
map_started f (Channel op) = Channel op
map_started f (Waker op) = Waker op
map_started f (AtomicWaker op) = AtomicWaker op
map_started f (Local op) = Local op
map_started f (Lazy op) = Lazy op
map_started f (Explore op) = Explore op
map_started f (Thread op) = Thread (map_thread f op)
map_started f Fail = Fail
map_started f Unreachable = Unreachable

module _ {D S : Type 0} where
  abbrev pub plain_thread : ThreadOp D S → ThreadOp D ⊤
  plain_thread op = map_thread (λ body. tt) op

  -- what is asked for, without what it starts
  abbrev pub plain_request : Request D S → Request D ⊤
  plain_request op = map_started (λ body. tt) op

  abbrev pub started_thread : ThreadOp D S → Option S
  started_thread (Spawn body name) = Some body
  started_thread _ = None

  -- what a spawn starts
  abbrev pub started_request : Request D S → Option S
  started_request (Thread op) = started_thread op
  started_request _ = None

  -- what the machine is asked for: the operation without its label and what it starts
  abbrev pub plain : Op D S → Request D ⊤
  plain op = plain_request op.request

  -- what the operation starts
  abbrev pub started : Op D S → Option S
  started op = started_request op.request
