-- What the threads of the guide's body do: from what a thread awaits and a reply, what it awaits next and its operation.
use Rattle.std.specs.Prelude.{ℕ, ◌+◌, Option, Some, None, cond, nat_lt}
use Rattle.loom_objects.specs.declared.operation.Request.TheVariants.{Mutex as OnMutex, Thread as OnThread, Fail}
use Rattle.loom_objects.specs.declared.operation.MutexOp.TheVariants.{New, Lock, Release}
use Rattle.loom_objects.specs.declared.operation.ThreadOp.TheVariants.{Spawn}
use Rattle.loom_objects.specs.declared.operation.Reply.{Reply}
use Rattle.loom_objects.specs.declared.operation.Reply.TheVariants.{Start, Mutex}
use Rattle.loom_objects.specs.Operation.Labelled.{Op, bare}
use Rattle.loom_ops.specs.Mutex.{guard_taken}
use Rattle.loom_ops.specs.Thread.{leave}
use Rattle.loom_ops.specs.declared.sync.mutex.MutexGuard.{MutexGuard}
use Rattle.loom_ops.specs.declared.thread.Leaving.TheVariants as left
use Rattle.loom_examples.specs.declared.bodies.guide.Awaits.{Awaits}
use Rattle.loom_examples.specs.declared.bodies.guide.Awaits.TheVariants.{Main, TheMutex, Counting, TheLock, Leaving, Nothing}
use Rattle.loom_examples.specs.declared.bodies.guide.Counter.{Counter}

-- main before its first operation
abbrev pub begun : ℕ → Counter
begun fewer_than = record { fewer_than = fewer_than; awaits = Main }

-- a thread that found this count in the mutex of this number
abbrev pub counts : ℕ → ℕ → ℕ → Awaits × Op ℕ Counter
counts fewer_than mutex count =
    cond (nat_lt count fewer_than) (Leaving (count + 1) left.Finish, bare (OnMutex (Release mutex (count + 1)))) (Nothing, bare Fail)

-- a thread that holds the mutex, or got another reply
abbrev pub held : ℕ → Option (MutexGuard × ℕ) → Awaits × Op ℕ Counter
held fewer_than (Some found) = counts fewer_than found.0.number found.1
held fewer_than None = (Nothing, bare Fail)

abbrev pub turn : ℕ → Awaits → Reply ℕ → Awaits × Op ℕ Counter
turn fewer_than Main Start = (TheMutex, bare (OnMutex (New 0)))
turn fewer_than TheMutex (Mutex mutex) =
    let counting = Counting (record { number = mutex }) in
    (counting, bare (OnThread (Spawn (record { fewer_than = 2; awaits = counting }) None)))
turn fewer_than (Counting mutex) reply = (TheLock, bare (OnMutex (Lock mutex.number)))
turn fewer_than TheLock reply = held fewer_than (guard_taken reply)
turn fewer_than (Leaving count leaving) reply = let next = leave count leaving in (Leaving count next.0, next.1)
turn fewer_than _ reply = (Nothing, bare Fail)

-- a thread's meaning
abbrev pub next_of : Counter → Reply ℕ → Counter × Op ℕ Counter
next_of c reply =
    let next = turn c.fewer_than c.awaits reply in
    (record c { awaits = next.0 }, next.1)
