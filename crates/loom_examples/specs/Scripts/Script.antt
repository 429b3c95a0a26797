-- What a script does from one operation to the next.
use Rattle.std.specs.Prelude.{ℕ, List, Option, Some, None, slice_get}
use Rattle.std.specs.declared.sync.atomic.Ordering.{Ordering}
use Rattle.loom_objects.specs.declared.operation.AtomicOp.TheVariants as atomic
use Rattle.loom_objects.specs.Operation.Labelled.{Op}
use Rattle.loom_objects.specs.declared.operation.Request.{Request}
use Rattle.loom_objects.specs.declared.operation.Request.TheVariants as op
use Rattle.loom_objects.specs.declared.operation.Reply.{Reply}
use Rattle.loom_objects.specs.declared.operation.ThreadOp.TheVariants.{Spawn}
use Rattle.loom_objects.specs.declared.label.Label.{Label as Called}
use Rattle.loom_examples.specs.declared.scripts.step.Value.{Value}
use Rattle.loom_examples.specs.Scripts.Written.{Written, Do, Labelled, Store, Label, JumpTo, IfTo, UnlessTo, SpawnAt}
use Rattle.loom_examples.specs.Scripts.Operations.{atomic_op, cell_op, arc_op, track_op, mutex_op, rwlock_op, condvar_op, notify_op, channel_op, waker_op, place_op, local_op, lazy_op, thread_op}
use Rattle.loom_examples.specs.Scripts.Running.{Running, fetched, landing, place_of, spawned}
use Rattle.loom_examples.specs.Scripts.Slots.{kept, number_of, object}

-- what is asked for, if there is something; else the step fails
abbrev pub or_fails : {A : Type 0} → Option A → (A → Request ℕ Running) → Request ℕ Running
or_fails None makes = op.Fail
or_fails (Some made) makes = makes made

-- what is asked for over slots, as the thread asks for it
abbrev pub request : Running → Request Value ℕ → Request ℕ Running
request s (op.Atomic made) = or_fails (atomic_op s.state made) (λ o. op.Atomic o)
request s (op.Fence order) = op.Fence order
request s (op.Cell made) = or_fails (cell_op s.state made) (λ o. op.Cell o)
request s (op.Arc made) = or_fails (arc_op s.state made) (λ o. op.Arc o)
request s (op.Track made) = or_fails (track_op s.state made) (λ o. op.Track o)
request s (op.Mutex made) = or_fails (mutex_op s.state made) (λ o. op.Mutex o)
request s (op.RwLock made) = or_fails (rwlock_op s.state made) (λ o. op.RwLock o)
request s (op.Condvar made) = or_fails (condvar_op s.state made) (λ o. op.Condvar o)
request s (op.Notify made) = or_fails (notify_op s.state made) (λ o. op.Notify o)
request s (op.Channel made) = or_fails (channel_op s.state made) (λ o. op.Channel o)
request s (op.Waker made) = or_fails (waker_op s.state made) (λ o. op.Waker o)
request s (op.AtomicWaker made) = or_fails (place_op s.state made) (λ o. op.AtomicWaker o)
request s (op.Local made) = op.Local (local_op s.state made)
request s (op.Lazy made) = op.Lazy (lazy_op s.state made)
request s (op.Explore made) = op.Explore made
request s (op.Thread made) = or_fails (thread_op s made) (λ o. op.Thread o)
request s op.Unreachable = op.Unreachable
request s asked = op.Fail

-- the store of the value into the atomic in the slot
abbrev pub store : Running → ℕ → Value → Ordering → Request ℕ Running
store s slot value order = or_fails (object s.state slot) (λ n. op.Atomic (atomic.Store n (number_of s.state value) order))

-- the start of a thread behind the label of this name
abbrev pub spawn_at : Running → List ℕ → Request ℕ Running
spawn_at s name = op.Thread (Spawn (spawned s (place_of s.steps name)) None)

-- what the step asks for; beyond the script's end, and where a jump leads to a jump or past a label to another one, it fails
abbrev pub step_request : Running → Option Written → Request ℕ Running
step_request s None = op.Fail
step_request s (Some (Do keep made)) = request s made
step_request s (Some (Labelled keep made called)) = request s made
step_request s (Some (Store slot value order)) = store s slot value order
step_request s (Some (Label label)) = op.Fail
step_request s (Some (JumpTo name)) = op.Fail
step_request s (Some (IfTo register n name)) = op.Fail
step_request s (Some (UnlessTo register n name)) = op.Fail
step_request s (Some (SpawnAt slot name)) = spawn_at s name

-- how the script's author calls it
abbrev pub label_of : Option Written → Option Called
label_of None = None
label_of (Some (Do keep made)) = None
label_of (Some (Labelled keep made called)) = Some called
label_of (Some (Store slot value order)) = None
label_of (Some (Label label)) = None
label_of (Some (JumpTo name)) = None
label_of (Some (IfTo register n name)) = None
label_of (Some (UnlessTo register n name)) = None
label_of (Some (SpawnAt slot name)) = None

-- the operation of the step
abbrev pub step_operation : Running → Option Written → Op ℕ Running
step_operation s step = record { request = step_request s step; label = label_of step }

abbrev pub operation_at : Running → ℕ → Op ℕ Running
operation_at s place = step_operation s (slice_get s.steps place)

-- what the reply tells is kept, and the thread is behind the next step
abbrev pub fetched_after : Running → Reply ℕ → Running
fetched_after s answer = record s { state = fetched s.steps (kept s.state answer) }

-- a script's meaning: what the reply tells is kept, and the next step says which operation comes
abbrev pub next_of : Running → Reply ℕ → Running × Op ℕ Running
next_of s answer = (fetched_after s answer, operation_at (fetched_after s answer) (landing s.steps (kept s.state answer)))
