-- What a thread of a test does: from a reply to the next operation.
use Rattle.std.specs.Prelude.{ℕ, List, [], ◌∷◌, Option, Some, None, slice_get, take}
use Rattle.loom_views.specs.Changes.{fit}
use Rattle.loom_views.specs.declared.rt.num.Numbers.TheVariants.{I32}
use Rattle.loom_views.specs.declared.rt.num.change.Change.{Change}
use Rattle.loom_views.specs.declared.rt.num.change.Change.TheVariants as changes
use Rattle.loom_objects.specs.Operation.Labelled.{Op, bare}
use Rattle.loom_objects.specs.declared.operation.AtomicOp.{AtomicOp}
use Rattle.loom_objects.specs.declared.operation.AtomicOp.TheVariants as atomic
use Rattle.loom_objects.specs.declared.operation.CellOp.TheVariants as cell
use Rattle.loom_objects.specs.declared.operation.CondvarOp.TheVariants as condvar
use Rattle.loom_objects.specs.declared.operation.MutexOp.TheVariants as mutex
use Rattle.loom_objects.specs.declared.operation.Reply.{Reply}
use Rattle.loom_objects.specs.declared.operation.Request.{Request}
use Rattle.loom_objects.specs.declared.operation.Request.TheVariants as op
use Rattle.loom_objects.specs.declared.operation.ThreadOp.TheVariants as thread
use Rattle.loom_text.specs.declared.run.code.AtomicOperation.{AtomicOperation}
use Rattle.loom_text.specs.declared.run.code.AtomicOperation.TheVariants.{New, Load, Store, Update, CompareExchange}
use Rattle.loom_text.specs.declared.run.code.Instruction.{Instruction}
use Rattle.loom_text.specs.declared.run.code.Instruction.TheVariants.{Compute, Jump, JumpIfZero, Ask}
use Rattle.loom_text.specs.declared.run.code.Operand.{Operand}
use Rattle.loom_text.specs.declared.run.code.Operand.TheVariants.{Number}
use Rattle.loom_text.specs.declared.run.code.Operation.{Operation}
use Rattle.loom_text.specs.declared.run.code.Operation.TheVariants.{Atomic, Fence, NewCell, Read, Write, NewMutex, Lock, TryLock, Unlock, NewCondvar, Wait, Signal, Broadcast, Yield, Fail, Spawn, Join, Finish, Exit, End}
use Rattle.loom_text.specs.declared.run.code.Program.{Program}
use Rattle.loom_text.specs.declared.run.code.Update.{Update as Updating}
use Rattle.loom_text.specs.declared.run.code.Update.TheVariants as update
use Rattle.loom_text.specs.Run.Code.{code_of, registers_of}
use Rattle.loom_text.specs.Run.Running.{Running}
use Rattle.loom_text.specs.Run.State.{at_first, behind, held, kept, settled}

-- a thread of the program before its first operation
abbrev pub started : Program → ℕ → Running
started program place = record { program = program; thread = place; progress = at_first (registers_of program place) }

-- the number that is computed with, as an atomic of an int holds it
abbrev pub word : Running → Operand → ℕ
word r number = fit I32 (held r.progress.registers number)

-- what a read-modify-write makes of what it finds
abbrev pub change_of : Updating → ℕ → Change
change_of update.Exchange n = changes.Swap n
change_of update.Add n = changes.Add n
change_of update.Sub n = changes.Sub n
change_of update.Or n = changes.Or n
change_of update.Xor n = changes.Xor n
change_of update.And n = changes.And n

abbrev pub atomic_op : Running → AtomicOperation → AtomicOp
atomic_op r (New n) = atomic.New I32 (word r (Number n))
atomic_op r (Load x order) = atomic.Load x order
atomic_op r (Store x number order) = atomic.Store x (word r number) order
atomic_op r (Update x made number order) = atomic.Update x (change_of made (word r number)) order
atomic_op r (CompareExchange x expected new success failure) =
    atomic.CompareExchange x (record { expected = word r expected; new = word r new; success = success; failure = failure })

-- what an operation asks of the machine: a cell holds one number, and a mutex none
abbrev pub request : Running → Operation → Request (List ℕ) Running
request r (Atomic made) = op.Atomic (atomic_op r made)
request r (Fence order) = op.Fence order
request r (NewCell n) = op.Cell (cell.New (n ∷ []))
request r (Read x) = op.Cell (cell.Get x)
request r (Write x number) = op.Cell (cell.Replace x (held r.progress.registers number ∷ []))
request r NewMutex = op.Mutex (mutex.New [])
request r (Lock m) = op.Mutex (mutex.Lock m)
request r (TryLock m) = op.Mutex (mutex.TryLock m)
request r (Unlock m) = op.Mutex (mutex.Release m [])
request r NewCondvar = op.Condvar condvar.New
request r (Wait c m) = op.Condvar (condvar.Wait c m [])
request r (Signal c) = op.Condvar (condvar.NotifyOne c)
request r (Broadcast c) = op.Condvar (condvar.NotifyAll c)
request r Yield = op.Thread thread.Yield
request r Fail = op.Fail
request r (Spawn place name) = op.Thread (thread.Spawn (started r.program place) (Some name))
request r (Join t n) = op.Thread (thread.Join t n)
request r (Finish count) = op.Thread (thread.Finish (take count r.progress.registers))
request r Exit = op.Thread thread.Exit
request r End = op.Thread thread.End

-- beyond its code a thread fails, and at an instruction that is no operation it asks who it is, which changes nothing
abbrev pub operation : Running → Option Instruction → Op (List ℕ) Running
operation r None = bare op.Fail
operation r (Some (Compute to operator one other)) = bare (op.Thread thread.Current)
operation r (Some (Jump place)) = bare (op.Thread thread.Current)
operation r (Some (JumpIfZero number place)) = bare (op.Thread thread.Current)
operation r (Some (Ask asked)) = record { request = request r asked.operation; label = Some asked.label }

-- at the next operation, or past a thousand other instructions
abbrev pub gone_on : Running → Reply (List ℕ) → Running
gone_on r reply = record r { progress = settled 1000 (code_of r.program r.thread) (kept r.progress reply) }

abbrev pub instruction_at : Running → Option Instruction
instruction_at r = slice_get (code_of r.program r.thread) r.progress.at

-- a thread's meaning: the answer is kept, and the next operation handed over
abbrev pub next_of : Running → Reply (List ℕ) → Running × Op (List ℕ) Running
next_of r reply =
    let s = gone_on r reply in
    (record s { progress = behind s.progress (instruction_at s) }, operation s (instruction_at s))
