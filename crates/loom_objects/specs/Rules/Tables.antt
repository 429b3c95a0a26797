-- The tables of the machine: what an operation does up to its branch point, and what it does once its thread is chosen.
use Rattle.std.specs.Prelude.{ℕ, ◌-◌, Bool, false, nat_lt, Result, Ok, Err, ⊤}
use Rattle.loom_views.specs.declared.rt.failure.FailureKind.TheVariants.{Assertion, TooManySteps, Misuse, Unreachable}
use Rattle.loom_objects.specs.declared.operation.Reply.TheVariants as reply
use Rattle.loom_objects.specs.declared.operation.Turn.TheVariants as turn
use Rattle.loom_objects.specs.Rules.Atomic.{atomic_begins, fence, accesses, needs_memory as atomic_needs_memory}
use Rattle.loom_objects.specs.Rules.Rule.{◌>>=◌, check}
use Rattle.loom_views.specs.declared.rt.failure.FailureKind.{FailureKind}
use Rattle.loom_objects.specs.declared.operation.Request.{Request}
use Rattle.loom_objects.specs.declared.operation.Request.TheVariants as op
use Rattle.loom_objects.specs.declared.rt.run.Entry.{Entry}
use Rattle.loom_objects.specs.declared.rt.run.Entry.TheVariants.{Explores}
use Rattle.loom_objects.specs.declared.rt.run.Passed.TheVariants as passed
use Rattle.loom_objects.specs.declared.rt.run.Resumed.{Resumed}
use Rattle.loom_objects.specs.declared.rt.run.Resumed.TheVariants as resumed
use Rattle.loom_objects.specs.declared.rt.thread.Task.{Task}
use Rattle.loom_objects.specs.declared.rt.thread.Task.TheVariants.{Start, Body, Continue, Access, Count, TryUnwrap, Lock, TryLock, Claim, Wait, Relock, Wake, Notify, Await, Rouse, Join, Finish, Send, Receive, Drain, WakeBy, CloneWaker, DropWaker, Register, TakeWaker}
use Rattle.loom_objects.specs.Rules.Cell.{cell_begins, needs_memory as cell_needs_memory}
use Rattle.loom_objects.specs.Rules.Mpsc.{channel_begins, drains, receives, sends, needs_memory as channel_needs_memory}
use Rattle.loom_objects.specs.Rules.Condvar.{condvar_begins, falls_asleep, relocks, wakes, needs_memory as condvar_needs_memory}
use Rattle.loom_objects.specs.Rules.Arc.{arc_begins, counts, tries_unwrap, needs_memory as arc_needs_memory}
use Rattle.loom_objects.specs.Rules.Mutex.{mutex_begins, lock, try_lock, needs_memory as mutex_needs_memory}
use Rattle.loom_objects.specs.Rules.Notify.{notify_begins, notifies, awaits, wakes_early, needs_memory as notify_needs_memory}
use Rattle.loom_objects.specs.Rules.RwLock.{rwlock_begins, claims, needs_memory as rwlock_needs_memory}
use Rattle.loom_objects.specs.Schedule.Offers.{chooses}
use Rattle.loom_objects.specs.Rules.Thread.{thread_begins, join, child_finish, needs_memory as thread_needs_memory}
use Rattle.loom_objects.specs.Rules.Alloc.{track_begins, needs_memory as track_needs_memory}
use Rattle.loom_objects.specs.Rules.Locals.{lazy_begins, lazy_needs_memory, local_begins, local_needs_memory}
use Rattle.loom_objects.specs.Rules.Waker.{clones_waker, drops_waker, atomic_waker_begins, atomic_waker_needs_memory, registers, takes_waker, waker_begins, waker_needs_memory, wakes_by}
use Rattle.loom_objects.specs.Rules.Replied.{replied, gone}
use Rattle.loom_objects.specs.World.{World}

module _ {D : Type 0} where
  -- what an operation does up to its branch point, or all of it, where it has none
  abbrev pub op_begins : Request D ⊤ → World D → Result (Entry D × World D) FailureKind
  op_begins (op.Atomic todo) w = atomic_begins todo w
  op_begins (op.Fence order) w = fence order w
  op_begins (op.Cell todo) w = cell_begins todo w
  op_begins (op.Arc todo) w = arc_begins todo w
  op_begins (op.Track todo) w = track_begins todo w
  op_begins (op.Mutex todo) w = mutex_begins todo w
  op_begins (op.RwLock todo) w = rwlock_begins todo w
  op_begins (op.Condvar todo) w = condvar_begins todo w
  op_begins (op.Notify todo) w = notify_begins todo w
  op_begins (op.Channel todo) w = channel_begins todo w
  op_begins (op.Waker todo) w = waker_begins todo w
  op_begins (op.AtomicWaker todo) w = atomic_waker_begins todo w
  op_begins (op.Local todo) w = local_begins todo w
  op_begins (op.Lazy todo) w = lazy_begins todo w
  op_begins (op.Explore todo) w = Ok (Explores todo, w)
  op_begins (op.Thread todo) w = thread_begins todo w
  op_begins op.Fail w = Err Assertion
  op_begins op.Unreachable w = Err Unreachable

  -- memory may be refused: an object or a thread is made, or data is copied
  abbrev pub needs_memory : Request D ⊤ → Bool
  needs_memory (op.Atomic todo) = atomic_needs_memory todo
  needs_memory (op.Cell todo) = cell_needs_memory todo
  needs_memory (op.Arc todo) = arc_needs_memory todo
  needs_memory (op.Track todo) = track_needs_memory todo
  needs_memory (op.Mutex todo) = mutex_needs_memory todo
  needs_memory (op.RwLock todo) = rwlock_needs_memory todo
  needs_memory (op.Condvar todo) = condvar_needs_memory todo
  needs_memory (op.Notify todo) = notify_needs_memory todo
  needs_memory (op.Channel todo) = channel_needs_memory todo
  needs_memory (op.Waker todo) = waker_needs_memory todo
  needs_memory (op.AtomicWaker todo) = atomic_waker_needs_memory todo
  needs_memory (op.Local todo) = local_needs_memory todo
  needs_memory (op.Lazy todo) = lazy_needs_memory todo
  needs_memory (op.Explore todo) = false
  needs_memory (op.Thread todo) = thread_needs_memory todo
  needs_memory (op.Fence order) = false
  needs_memory op.Fail = false
  needs_memory op.Unreachable = false

  -- an operation that is handed over is counted before anything else
  abbrev pub counted : Request D ⊤ → World D → Result (Entry D × World D) FailureKind
  counted todo w = do
    _ ← check (nat_lt 0 w.steps_left) TooManySteps
    op_begins todo (record w { steps_left = w.steps_left - 1 })

  -- what the active thread had pending takes effect: a thread has its turn, or it reaches another branch point, or which store
  -- it reads is to be chosen
  abbrev pub takes_effect : Task D → World D → Result (Resumed D × World D) FailureKind
  takes_effect Start w = Ok (resumed.Passed (passed.Turn (turn.Start w.active)), w)
  takes_effect Body w = Err Misuse
  takes_effect Continue w = replied (reply.Done, w)
  takes_effect (Access access) w = accesses access w
  takes_effect (Lock locking n) w = lock locking n w >>= replied
  takes_effect (TryLock n) w = try_lock n w >>= replied
  takes_effect (Claim claim n) w = claims claim n w >>= replied
  takes_effect (Wait locking n m value) w = falls_asleep locking n m value w >>= gone
  takes_effect (Relock locking m) w = relocks locking m w >>= gone
  takes_effect (Wake waking n) w = wakes waking n w >>= replied
  takes_effect (Notify n) w = notifies n w >>= replied
  takes_effect (Await n) w = awaits n w >>= replied
  takes_effect (Rouse n) w = wakes_early n w >>= replied
  takes_effect (Count todo n) w = counts todo n w >>= replied
  takes_effect (TryUnwrap n) w = tries_unwrap n w >>= gone
  takes_effect (Join t n) w = join t n w >>= replied
  takes_effect (Finish n value) w = child_finish n value w >>= replied
  takes_effect (Send n sent) w = sends n sent w >>= replied
  takes_effect (Receive by n) w = receives by n w >>= replied
  takes_effect (Drain n taken) w = drains n taken w >>= gone
  takes_effect (WakeBy n c after) w = wakes_by n c after w >>= gone
  takes_effect (CloneWaker c place) w = clones_waker c place w >>= gone
  takes_effect (DropWaker c after) w = drops_waker c after w >>= gone
  takes_effect (Register p c) w = registers p c w >>= gone
  takes_effect (TakeWaker by p) w = takes_waker by p w >>= gone

  -- thread t is chosen, and what it has pending takes effect
  abbrev pub chosen : ℕ → World D → Result (Resumed D × World D) FailureKind
  chosen t w = do
    (todo, ready) ← chooses t w
    takes_effect todo ready
