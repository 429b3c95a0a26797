-- The scripts of the rows about locks, condition variables, notifiers and threads that wait for one another.
use Rattle.std.specs.Prelude.{List, [], ◌∷◌, Some, codes}
use Rattle.std.specs.declared.sync.atomic.Ordering.TheVariants.{Relaxed}
use Rattle.loom_views.specs.declared.rt.num.Numbers.TheVariants as numbers
use Rattle.loom_objects.specs.declared.operation.AtomicOp.TheVariants as atomic
use Rattle.loom_objects.specs.declared.operation.CondvarOp.TheVariants as condvar
use Rattle.loom_objects.specs.declared.operation.MutexOp.TheVariants as mutex
use Rattle.loom_objects.specs.declared.operation.NotifyOp.TheVariants as notify
use Rattle.loom_objects.specs.declared.operation.RwLockOp.TheVariants as rwlock
use Rattle.loom_objects.specs.declared.operation.ThreadOp.TheVariants as threads
use Rattle.loom_objects.specs.declared.operation.Request.TheVariants as op
use Rattle.loom_objects.specs.Text.{first_text}
use Rattle.loom_examples.specs.Scripts.Written.{Written, Do, Label, UnlessTo, SpawnAt}
use Rattle.loom_examples.specs.declared.scripts.step.Value.TheVariants.{Plain, Held, Next}
use Rattle.loom_examples.specs.Rows.Steps.{exit, end, park, yield, fail}

abbrev pub finish : Written
finish = Do 0 (op.Thread (threads.Finish (Plain 7)))

-- Main releases a mutex that it never locked.
abbrev pub release_unlocked : List Written
release_unlocked =
    Do 0 (op.Mutex (mutex.New (Plain 0))) ∷ Do 0 (op.Mutex (mutex.Release 0 (Plain 0))) ∷ []

-- Main takes the data of a mutex out, and then locks the mutex.
abbrev pub lock_while_out : List Written
lock_while_out =
    Do 0 (op.Mutex (mutex.New (Plain 0))) ∷ Do 0 (op.Mutex (mutex.GetMut 0)) ∷ Do 0 (op.Mutex (mutex.Lock 0)) ∷
    []

-- Two threads each add 1 to what a mutex holds. Main joins them, takes the mutex apart, and asserts that it held 2 (loom's
-- `tests/mutex.rs`).
abbrev pub mutex_into_inner : List Written
mutex_into_inner =
    Do 0 (op.Mutex (mutex.New (Plain 0))) ∷ SpawnAt 1 (codes "child") ∷ SpawnAt 2 (codes "child") ∷
    Do 1 (op.Thread (threads.Join 1 1)) ∷ Do 1 (op.Thread (threads.Join 2 2)) ∷
    Do 0 (op.Mutex (mutex.IntoInner 0)) ∷ UnlessTo 0 2 (codes "wrong") ∷
    Do 0 (op.Thread (threads.Finish (Held 0))) ∷ exit ∷ end ∷ Label (codes "wrong") ∷ fail ∷
    Label (codes "child") ∷ Do 0 (op.Mutex (mutex.Lock 0)) ∷ Do 0 (op.Mutex (mutex.Release 0 (Next 0))) ∷
    finish ∷ exit ∷ end ∷ []

-- Main locks and releases a mutex 65,534 times, which is as often as a thread may use objects. It counts that in the mutex.
abbrev pub many_locks : List Written
many_locks =
    Do 0 (op.Mutex (mutex.New (Plain 0))) ∷ Label (codes "again") ∷ Do 0 (op.Mutex (mutex.Lock 0)) ∷
    Do 0 (op.Mutex (mutex.Release 0 (Next 0))) ∷ UnlessTo 0 65533 (codes "again") ∷ finish ∷ exit ∷ end ∷ []

-- The one before, with one more.
abbrev pub too_many_locks : List Written
too_many_locks =
    Do 0 (op.Mutex (mutex.New (Plain 0))) ∷ Label (codes "again") ∷ Do 0 (op.Mutex (mutex.Lock 0)) ∷
    Do 0 (op.Mutex (mutex.Release 0 (Next 0))) ∷ UnlessTo 0 65534 (codes "again") ∷ finish ∷ exit ∷ end ∷ []

-- Main takes two guards for reading of a lock, and ends both.
abbrev pub rwlock_read_twice : List Written
rwlock_read_twice =
    Do 0 (op.RwLock (rwlock.New (Plain 1))) ∷ Do 0 (op.RwLock (rwlock.Read 0)) ∷
    Do 0 (op.RwLock (rwlock.Read 0)) ∷ Do 0 (op.RwLock (rwlock.ReadRelease 0)) ∷
    Do 0 (op.RwLock (rwlock.ReadRelease 0)) ∷ finish ∷ exit ∷ end ∷ []

-- Main writes a lock, and asserts that it can't be written a second time (loom's `tests/rwlock.rs`).
abbrev pub rwlock_write_then_try_write : List Written
rwlock_write_then_try_write =
    Do 0 (op.RwLock (rwlock.New (Plain 1))) ∷ Do 0 (op.RwLock (rwlock.Write 0)) ∷
    Do 0 (op.RwLock (rwlock.TryWrite 0)) ∷ UnlessTo 3 1 (codes "wrong") ∷
    Do 0 (op.RwLock (rwlock.WriteRelease 0 (Held 0))) ∷ finish ∷ exit ∷ end ∷ Label (codes "wrong") ∷ fail ∷ []

-- A thread ends a guard for reading that main has.
abbrev pub read_guard_of_another : List Written
read_guard_of_another =
    Do 0 (op.RwLock (rwlock.New (Plain 0))) ∷ Do 0 (op.RwLock (rwlock.Read 0)) ∷ SpawnAt 1 (codes "child") ∷
    Do 0 (op.Thread (threads.Join 1 1)) ∷ Label (codes "child") ∷ Do 0 (op.RwLock (rwlock.ReadRelease 0)) ∷ []

-- Main writes a lock, and stores 1 into an atomic before it leaves 1 in the lock. Two threads read both under the lock, and assert
-- that both are 0 or both 1.
abbrev pub rwlock_writer_and_readers : List Written
rwlock_writer_and_readers =
    Do 0 (op.RwLock (rwlock.New (Plain 0))) ∷ Do 1 (op.Atomic (atomic.New numbers.U64 0)) ∷
    SpawnAt 2 (codes "child") ∷ SpawnAt 3 (codes "child") ∷ Do 0 (op.RwLock (rwlock.Write 0)) ∷
    Do 0 (op.Atomic (atomic.Store 1 1 Relaxed)) ∷ Do 0 (op.RwLock (rwlock.WriteRelease 0 (Plain 1))) ∷ finish ∷
    exit ∷ end ∷ Label (codes "wrong") ∷ fail ∷ Label (codes "child") ∷ Do 0 (op.RwLock (rwlock.Read 0)) ∷
    Do 1 (op.Atomic (atomic.Load 1 Relaxed)) ∷ UnlessTo 1 1 (codes "read release") ∷
    Do 2 (op.RwLock (rwlock.ReadRelease 0)) ∷ UnlessTo 0 1 (codes "wrong") ∷ finish ∷ exit ∷ end ∷
    Label (codes "read release") ∷ Do 2 (op.RwLock (rwlock.ReadRelease 0)) ∷ UnlessTo 0 0 (codes "wrong") ∷
    finish ∷ exit ∷ end ∷ []

-- Main waits on a condition variable that nobody notifies.
abbrev pub condvar_alone : List Written
condvar_alone =
    Do 0 (op.Mutex (mutex.New (Plain 0))) ∷ Do 1 (op.Condvar condvar.New) ∷ Do 0 (op.Mutex (mutex.Lock 0)) ∷
    Do 0 (op.Condvar (condvar.Wait 1 0 (Plain 0))) ∷ []

-- The one before, where main has a token: that is for `park` alone.
abbrev pub condvar_with_token : List Written
condvar_with_token =
    Do 0 (op.Thread threads.Current) ∷ Do 0 (op.Thread (threads.Unpark 0)) ∷
    Do 1 (op.Mutex (mutex.New (Plain 0))) ∷ Do 2 (op.Condvar condvar.New) ∷ Do 0 (op.Mutex (mutex.Lock 1)) ∷
    Do 0 (op.Condvar (condvar.Wait 2 1 (Plain 0))) ∷ []

-- A thread leaves 7 in a mutex and notifies. Main waits for that unless the 7 is there, and asserts that it finds it.
abbrev pub condvar_hands_over : List Written
condvar_hands_over =
    Do 0 (op.Mutex (mutex.New (Plain 0))) ∷ Do 1 (op.Condvar condvar.New) ∷ SpawnAt 2 (codes "child") ∷
    Do 0 (op.Mutex (mutex.Lock 0)) ∷ UnlessTo 0 0 (codes "release") ∷
    Do 0 (op.Condvar (condvar.Wait 1 0 (Plain 0))) ∷ Label (codes "release") ∷
    Do 1 (op.Mutex (mutex.Release 0 (Held 0))) ∷ Do 1 (op.Thread (threads.Join 2 2)) ∷
    UnlessTo 0 7 (codes "wrong") ∷ Do 0 (op.Thread (threads.Finish (Held 0))) ∷ exit ∷ end ∷
    Label (codes "wrong") ∷ fail ∷ Label (codes "child") ∷ Do 0 (op.Mutex (mutex.Lock 0)) ∷
    Do 0 (op.Mutex (mutex.Release 0 (Plain 7))) ∷ Do 0 (op.Condvar (condvar.NotifyOne 1)) ∷ finish ∷ exit ∷
    end ∷ []

-- Main and a thread wait on a condition variable, unless they find 7 in the mutex. Another thread leaves that there and
-- notifies both. Each asserts that it finds the 7.
abbrev pub notify_all : List Written
notify_all =
    Do 0 (op.Mutex (mutex.New (Plain 0))) ∷ Do 1 (op.Condvar condvar.New) ∷ SpawnAt 2 (codes "first") ∷
    SpawnAt 3 (codes "second") ∷ Label (codes "first") ∷ Do 0 (op.Mutex (mutex.Lock 0)) ∷
    UnlessTo 0 0 (codes "release") ∷ Do 0 (op.Condvar (condvar.Wait 1 0 (Plain 0))) ∷ Label (codes "release") ∷
    Do 1 (op.Mutex (mutex.Release 0 (Held 0))) ∷ UnlessTo 0 7 (codes "wrong") ∷
    Do 0 (op.Thread (threads.Finish (Held 0))) ∷ exit ∷ end ∷ Label (codes "wrong") ∷ fail ∷
    Label (codes "second") ∷ Do 0 (op.Mutex (mutex.Lock 0)) ∷ Do 0 (op.Mutex (mutex.Release 0 (Plain 7))) ∷
    Do 0 (op.Condvar (condvar.NotifyAll 1)) ∷ finish ∷ exit ∷ end ∷ []

-- Main notifies its own notifier, and then waits on it.
abbrev pub notify_wait : List Written
notify_wait =
    Do 0 (op.Notify notify.New) ∷ Do 0 (op.Notify (notify.Notify 0)) ∷ Do 0 (op.Notify (notify.Wait 0)) ∷
    finish ∷ exit ∷ end ∷ []

-- Main and a thread wait on one notifier.
abbrev pub second_waiter : List Written
second_waiter =
    Do 0 (op.Notify notify.New) ∷ SpawnAt 1 (codes "child") ∷ Do 0 (op.Notify (notify.Wait 0)) ∷
    Label (codes "child") ∷ Do 0 (op.Notify (notify.Wait 0)) ∷ []

-- Main gives itself a token, and then parks.
abbrev pub unpark_then_park : List Written
unpark_then_park =
    Do 0 (op.Thread threads.Current) ∷ Do 0 (op.Thread (threads.Unpark 0)) ∷ park ∷ finish ∷ exit ∷ end ∷ []

-- Main parks without a token, and nobody wakes it.
abbrev pub park_alone : List Written
park_alone =
    park ∷ []

-- Main parks, before or after a thread unparks it, which stored 7 into an atomic first. Main asserts that it loads the 7 then.
abbrev pub unpark_wakes : List Written
unpark_wakes =
    Do 0 (op.Atomic (atomic.New numbers.U64 0)) ∷ Do 1 (op.Thread threads.Current) ∷ SpawnAt 2 (codes "child") ∷
    Do 1 (op.Atomic (atomic.Load 0 Relaxed)) ∷ park ∷ Do 0 (op.Atomic (atomic.Load 0 Relaxed)) ∷
    UnlessTo 0 7 (codes "wrong") ∷ Do 0 (op.Thread (threads.Finish (Held 0))) ∷ exit ∷ end ∷
    Label (codes "wrong") ∷ fail ∷ Label (codes "child") ∷ Do 0 (op.Atomic (atomic.Store 0 7 Relaxed)) ∷
    Do 0 (op.Thread (threads.Unpark 1)) ∷ finish ∷ exit ∷ end ∷ []

-- Main yields beside a thread that does nothing but end.
abbrev pub yield_beside : List Written
yield_beside =
    SpawnAt 0 (codes "child") ∷ yield ∷ finish ∷ exit ∷ end ∷ Label (codes "child") ∷ finish ∷ exit ∷ end ∷ []

-- Main spawns a thread with a name, which asks who it is.
abbrev pub named_child : List Written
named_child =
    Do 0 (op.Thread (threads.Spawn 4 (Some (record { text = first_text (codes "foobar") })))) ∷ finish ∷ exit ∷
    end ∷ Do 0 (op.Thread threads.Current) ∷ finish ∷ exit ∷ end ∷ []

-- Main comes to code that is never to be reached.
abbrev pub unreachable : List Written
unreachable =
    Do 0 op.Unreachable ∷ []
