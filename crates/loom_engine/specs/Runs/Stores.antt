-- What the stores of an atomic are, over every history.
use Rattle.std.specs.Prelude.{ℕ, ◌≡◌, ◌==◌, ◌++◌, Bool, true, false, cond, map, List, [], ◌∷◌, Option, Some, None, Ok, slice_get, ⊤, ◌-◌, length, slice_set}
use Rattle.loom_views.specs.Changes.{changed, fit}
use Rattle.loom_views.specs.Views.{Place, Keeps, Meets, Records}
use Rattle.loom_views.specs.declared.rt.num.Numbers.{Numbers}
use Rattle.loom_objects.specs.declared.operation.AtomicOp.{AtomicOp}
use Rattle.loom_objects.specs.declared.operation.AtomicOp.TheVariants as atomic_op
use Rattle.loom_objects.specs.declared.operation.Reply.{Reply}
use Rattle.loom_objects.specs.declared.operation.Reply.TheVariants as reply
use Rattle.loom_objects.specs.declared.operation.Request.{Request}
use Rattle.loom_objects.specs.declared.operation.Request.TheVariants as op
use Rattle.loom_objects.specs.declared.operation.Turn.{Turn}
use Rattle.loom_objects.specs.declared.operation.Turn.TheVariants as turn
use Rattle.loom_objects.specs.declared.rt.atomic.Atomic.{Atomic}
use Rattle.loom_objects.specs.declared.rt.object.Object.TheVariants as object
use Rattle.loom_objects.specs.declared.rt.thread.Task.{Task}
use Rattle.loom_objects.specs.declared.rt.thread.Task.TheVariants as task
use Rattle.loom_objects.specs.declared.rt.thread.Thread.{Thread}
use Rattle.loom_engine.specs.Runs.Course.{Course, opening}
use Rattle.loom_engine.specs.Runs.Histories.{Event, Happens, IsReached}

-- the values of an object's stores, the oldest first, where it is an atomic
abbrev pub values_of : Option Place → List ℕ
values_of None = []
values_of (Some (Meets k)) = []
values_of (Some (Records cell)) = []
values_of (Some (Keeps history)) = map (λ store. store.value) history.stores

module _ {D : Type 0} where
  abbrev pub access_in : Request D ⊤ → Option AtomicOp
  access_in (op.Atomic todo) = Some todo
  access_in _ = None

  abbrev pub access_in_task : Task D → Option AtomicOp
  access_in_task (task.Access access) = Some access
  access_in_task _ = None

  abbrev pub access_at : Option (Thread D) → Option AtomicOp
  access_at None = None
  access_at (Some thread) = access_in_task thread.task

  -- The access of an atomic that the thread has handed over by then: that of this event if it is the active thread, and else the one
  -- that it had pending.
  abbrev pub access_of : Course D → Event D → ℕ → Option AtomicOp
  access_of c event t = cond (t == c.world.active) (access_in event.op) (access_at (slice_get c.world.threads t))

  -- what an access stores in atomic n of these numbers, where its thread's reply is this
  abbrev pub stored_by : Numbers → ℕ → AtomicOp → Reply D → List ℕ
  stored_by numbers n (atomic_op.Store m value order) told = cond (m == n) (fit numbers value ∷ []) []
  stored_by numbers n (atomic_op.Update m change order) (reply.Value read) = cond (m == n) (fit numbers (changed numbers change read) ∷ []) []
  stored_by numbers n (atomic_op.CompareExchange m exchange) (reply.Exchanged (Ok read)) = cond (m == n) (fit numbers exchange.new ∷ []) []
  stored_by numbers n (atomic_op.CompareAndSwap m expected new order) (reply.Value read) = cond (m == n) (cond (read == fit numbers expected) (fit numbers new ∷ []) []) []
  stored_by numbers n (atomic_op.Update m change order) told = []
  stored_by numbers n (atomic_op.CompareExchange m exchange) told = []
  stored_by numbers n (atomic_op.CompareAndSwap m expected new order) told = []
  stored_by numbers n (atomic_op.Load m order) told = []
  stored_by numbers n (atomic_op.New other value) told = []
  stored_by numbers n (atomic_op.UnsyncLoad m) told = []
  stored_by numbers n (atomic_op.IntoInner m) told = []
  stored_by numbers n (atomic_op.WithMut m) told = []
  stored_by numbers n (atomic_op.WithMutEnd m value) told = []

  abbrev pub stored_where : Numbers → ℕ → Option AtomicOp → Reply D → List ℕ
  stored_where numbers n None told = []
  stored_where numbers n (Some access) told = stored_by numbers n access told

  -- what is stored in atomic n by the thread that has its turn
  abbrev pub stored_in : Numbers → ℕ → Course D → Event D → Turn D → List ℕ
  stored_in numbers n c event (turn.Reply t told) = stored_where numbers n (access_of c event t) told
  stored_in numbers n c event (turn.Start t) = []
  stored_in numbers n c event (turn.Ended value) = []

  -- a thread has its turn
  abbrev pub IsThreads : Turn D → Type 0
  IsThreads (turn.Reply t told) = Unit {0}
  IsThreads (turn.Start t) = Unit {0}
  IsThreads (turn.Ended value) = ⊥

  -- a new atomic, or the end of a mutation, which puts a value in the place of the newest
  abbrev pub puts_value : Request D ⊤ → Bool
  puts_value (op.Atomic (atomic_op.New numbers value)) = true
  puts_value (op.Atomic (atomic_op.WithMutEnd n value)) = true
  puts_value _ = false

-- a state in which a thread has its turn: the opening one, or one to which an event leads from such a state, if that isn't the last
pub data IsUnderWay {D : Type 0} (max_threads max_steps : ℕ) : Course D → Type 0 where
  at_start : (explores : Bool) → IsUnderWay max_threads max_steps (opening explores max_threads max_steps)
  by_turn : (c : Course D) (event : Event D) (v : Course D) → IsUnderWay max_threads max_steps c → Happens c event v → IsThreads event.turn → IsUnderWay max_threads max_steps v

-- Over every history: the values of an atomic's stores are those that were there before an event, in their order, and then what the
-- access stores of which a thread is told by the event. Not so where the event makes an atomic, or ends a mutation.
abbrev pub StoresLaw : Type 0 → Type 0
StoresLaw D = (max_threads max_steps n : ℕ) (c v : Course D) (event : Event D) (atomic : Atomic) → IsUnderWay max_threads max_steps c → Happens c event v
    → puts_value event.op ≡ false → slice_get v.world.objects n ≡ Some (object.Atomic atomic)
    → values_of (slice_get v.world.points.places n) ≡ values_of (slice_get c.world.points.places n) ++ stored_in atomic.numbers n c event event.turn

-- the list with this value in the place of the last one
abbrev pub with_last : ℕ → List ℕ → List ℕ
with_last value values = slice_set values (length values - 1) value

-- Over every history: the end of a mutation of atomic m puts its value in the place of the newest, and leaves the values of each other
-- object's stores as they were.
abbrev pub MutationLaw : Type 0 → Type 0
MutationLaw D = (max_threads max_steps m n value : ℕ) (c v : Course D) (event : Event D) (atomic : Atomic) → IsReached max_threads max_steps c → Happens c event v
    → event.op ≡ op.Atomic (atomic_op.WithMutEnd m value) → slice_get v.world.objects m ≡ Some (object.Atomic atomic)
    → values_of (slice_get v.world.points.places n)
    ≡ cond (m == n) (with_last (fit atomic.numbers value) (values_of (slice_get c.world.points.places n))) (values_of (slice_get c.world.points.places n))
