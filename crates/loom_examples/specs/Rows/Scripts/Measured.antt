-- The scripts of the bodies that are measured.
use Rattle.std.specs.Prelude.{List, [], ◌∷◌, codes}
use Rattle.std.specs.declared.sync.atomic.Ordering.TheVariants.{Relaxed}
use Rattle.loom_views.specs.declared.rt.num.Numbers.TheVariants as numbers
use Rattle.loom_objects.specs.declared.operation.AtomicOp.TheVariants as atomic
use Rattle.loom_objects.specs.declared.operation.CondvarOp.TheVariants as condvar
use Rattle.loom_objects.specs.declared.operation.MutexOp.TheVariants as mutex
use Rattle.loom_objects.specs.declared.operation.Request.TheVariants as op
use Rattle.loom_objects.specs.declared.operation.RwLockOp.TheVariants as rwlock
use Rattle.loom_objects.specs.declared.operation.ThreadOp.TheVariants as threads
use Rattle.loom_examples.specs.Scripts.Written.{Written, Do, Store, Label, JumpTo, UnlessTo, SpawnAt}
use Rattle.loom_examples.specs.declared.scripts.step.Value.TheVariants.{Plain, Held, Next, Both}
use Rattle.loom_examples.specs.Measured.Body.{finish}
use Rattle.loom_examples.specs.Rows.Steps.{exit, end, yield}

-- Two threads store to an atomic each, and load from the other's.
abbrev pub store_buffering : List Written
store_buffering =
    Do 0 (op.Atomic (atomic.New numbers.U64 0)) ∷ Do 1 (op.Atomic (atomic.New numbers.U64 0)) ∷
    SpawnAt 2 (codes "child") ∷ Do 0 (op.Atomic (atomic.Store 1 1 Relaxed)) ∷
    Do 1 (op.Atomic (atomic.Load 0 Relaxed)) ∷ Do 0 (op.Thread (threads.Join 2 2)) ∷
    Do 0 (op.Thread (threads.Finish (Both 0 1))) ∷ JumpTo (codes "exit") ∷ Label (codes "child") ∷
    Do 0 (op.Atomic (atomic.Store 0 1 Relaxed)) ∷ Do 0 (op.Atomic (atomic.Load 1 Relaxed)) ∷
    Do 0 (op.Thread (threads.Finish (Held 0))) ∷ Label (codes "exit") ∷ exit ∷ end ∷ []

-- Three threads, of which each loads twice from the next one's atomic, and then stores twice to its own.
abbrev pub three_threads : List Written
three_threads =
    Do 0 (op.Atomic (atomic.New numbers.U64 0)) ∷ Do 1 (op.Atomic (atomic.New numbers.U64 0)) ∷
    Do 2 (op.Atomic (atomic.New numbers.U64 0)) ∷ SpawnAt 3 (codes "first") ∷ SpawnAt 4 (codes "second") ∷
    Do 0 (op.Atomic (atomic.Load 1 Relaxed)) ∷ Do 1 (op.Atomic (atomic.Load 1 Relaxed)) ∷
    Do 0 (op.Atomic (atomic.Store 0 1 Relaxed)) ∷ Do 0 (op.Atomic (atomic.Store 0 2 Relaxed)) ∷
    JumpTo (codes "finish") ∷ Label (codes "first") ∷ Do 0 (op.Atomic (atomic.Load 2 Relaxed)) ∷
    Do 1 (op.Atomic (atomic.Load 2 Relaxed)) ∷ Do 0 (op.Atomic (atomic.Store 1 1 Relaxed)) ∷
    Do 0 (op.Atomic (atomic.Store 1 2 Relaxed)) ∷ JumpTo (codes "finish") ∷ Label (codes "second") ∷
    Do 0 (op.Atomic (atomic.Load 0 Relaxed)) ∷ Do 1 (op.Atomic (atomic.Load 0 Relaxed)) ∷
    Do 0 (op.Atomic (atomic.Store 2 1 Relaxed)) ∷ Do 0 (op.Atomic (atomic.Store 2 2 Relaxed)) ∷
    Label (codes "finish") ∷ finish ∷ exit ∷ end ∷ []

-- Two threads lock two mutexes in the same order, beside a main that joins them.
abbrev pub locks_in_turn : List Written
locks_in_turn =
    Do 0 (op.Mutex (mutex.New (Plain 0))) ∷ Do 1 (op.Mutex (mutex.New (Plain 0))) ∷ SpawnAt 2 (codes "child") ∷
    SpawnAt 3 (codes "child") ∷ Do 0 (op.Thread (threads.Join 2 2)) ∷ Do 0 (op.Thread (threads.Join 3 3)) ∷
    finish ∷ exit ∷ end ∷ Label (codes "child") ∷ Do 0 (op.Mutex (mutex.Lock 0)) ∷
    Do 0 (op.Mutex (mutex.Lock 1)) ∷ Do 0 (op.Mutex (mutex.Release 1 (Plain 0))) ∷
    Do 0 (op.Mutex (mutex.Release 0 (Plain 0))) ∷ finish ∷ exit ∷ end ∷ []

-- Two threads add to what a lock holds, one after the other, beside a main that reads it. Main joins them.
abbrev pub writers_beside_a_reader : List Written
writers_beside_a_reader =
    Do 0 (op.RwLock (rwlock.New (Plain 0))) ∷ SpawnAt 1 (codes "child") ∷ SpawnAt 2 (codes "child") ∷
    Do 0 (op.RwLock (rwlock.Read 0)) ∷ Do 0 (op.RwLock (rwlock.ReadRelease 0)) ∷
    Do 0 (op.Thread (threads.Join 1 1)) ∷ Do 0 (op.Thread (threads.Join 2 2)) ∷ finish ∷ exit ∷ end ∷
    Label (codes "child") ∷ Do 0 (op.RwLock (rwlock.Write 0)) ∷
    Do 1 (op.RwLock (rwlock.WriteRelease 0 (Next 0))) ∷ finish ∷ exit ∷ end ∷ []

-- A thread leaves 1 in a mutex and notifies. Main waits for that unless the 1 is there, and joins the thread.
abbrev pub wait_and_notify : List Written
wait_and_notify =
    Do 0 (op.Mutex (mutex.New (Plain 0))) ∷ Do 1 (op.Condvar condvar.New) ∷ SpawnAt 2 (codes "child") ∷
    Do 0 (op.Mutex (mutex.Lock 0)) ∷ UnlessTo 0 0 (codes "release") ∷
    Do 0 (op.Condvar (condvar.Wait 1 0 (Plain 0))) ∷ Label (codes "release") ∷
    Do 1 (op.Mutex (mutex.Release 0 (Held 0))) ∷ Do 1 (op.Thread (threads.Join 2 2)) ∷ finish ∷ exit ∷ end ∷
    Label (codes "child") ∷ Do 0 (op.Mutex (mutex.Lock 0)) ∷ Do 0 (op.Mutex (mutex.Release 0 (Plain 1))) ∷
    Do 0 (op.Condvar (condvar.NotifyOne 1)) ∷ finish ∷ exit ∷ end ∷ []

-- One thread stores 1 into an atomic and loads it, and so on up to 500.
abbrev pub long_line : List Written
long_line =
    Do 0 (op.Atomic (atomic.New numbers.U64 0)) ∷ Label (codes "again") ∷ Store 0 (Next 0) Relaxed ∷
    Do 0 (op.Atomic (atomic.Load 0 Relaxed)) ∷ UnlessTo 0 500 (codes "again") ∷ finish ∷ exit ∷ end ∷ []

-- One thread stores 1 into an atomic and loads it, and so on up to 5,000.
abbrev pub long_line_10000 : List Written
long_line_10000 =
    Do 0 (op.Atomic (atomic.New numbers.U64 0)) ∷ Label (codes "again") ∷ Store 0 (Next 0) Relaxed ∷
    Do 0 (op.Atomic (atomic.Load 0 Relaxed)) ∷ UnlessTo 0 5000 (codes "again") ∷ finish ∷ exit ∷ end ∷ []

-- Main locks a mutex 1,001 times, beside a thread that waits for it since the first time. It counts that in the mutex.
abbrev pub long_turn : List Written
long_turn =
    Do 0 (op.Mutex (mutex.New (Plain 0))) ∷ Do 0 (op.Mutex (mutex.Lock 0)) ∷ SpawnAt 1 (codes "child") ∷ yield ∷
    Do 0 (op.Mutex (mutex.Release 0 (Next 0))) ∷ Label (codes "again") ∷ Do 0 (op.Mutex (mutex.Lock 0)) ∷
    Do 0 (op.Mutex (mutex.Release 0 (Next 0))) ∷ UnlessTo 0 1000 (codes "again") ∷ Label (codes "finish") ∷
    finish ∷ exit ∷ end ∷ Label (codes "child") ∷ Do 0 (op.Mutex (mutex.Lock 0)) ∷
    Do 0 (op.Mutex (mutex.Release 0 (Held 0))) ∷ JumpTo (codes "finish") ∷ []
