-- What mutexes do.
use Rattle.std.specs.Prelude.{ℕ, Bool, true, false, cond, length, is_none, is_some, Option, Some, None, ⊤, Result, Ok}
use Rattle.loom_views.specs.declared.rt.failure.FailureKind.{FailureKind}
use Rattle.loom_views.specs.declared.rt.failure.FailureKind.TheVariants.{Misuse}
use Rattle.loom_objects.specs.declared.operation.MutexOp.{MutexOp}
use Rattle.loom_objects.specs.declared.operation.MutexOp.TheVariants.{New, Lock, TryLock, Release, GetMut, Put, IntoInner}
use Rattle.loom_objects.specs.declared.operation.Reply.{Reply}
use Rattle.loom_objects.specs.declared.operation.Reply.TheVariants as reply
use Rattle.loom_objects.specs.declared.rt.object.Object.TheVariants as object
use Rattle.loom_objects.specs.declared.rt.run.Entry.{Entry}
use Rattle.loom_objects.specs.declared.rt.run.Entry.TheVariants.{Answered, AtBranch}
use Rattle.loom_objects.specs.declared.rt.thread.Locking.{Locking}
use Rattle.loom_objects.specs.declared.rt.thread.Locking.TheVariants.{Untimed, Timed}
use Rattle.loom_objects.specs.declared.rt.thread.Task.TheVariants as task
use Rattle.loom_objects.specs.Rules.Rule.{◌>>=◌, check, found}
use Rattle.loom_objects.specs.World.{World}
use Rattle.loom_objects.specs.declared.rt.mutex.Mutex.{Mutex}
use Rattle.loom_objects.specs.Lent.{kept, value_in, handed_out, handed_back, lent_to, put_back, taken_apart}
use Rattle.loom_objects.specs.Rules.Moves.{a_mutex, acquires, releases, with_object, with_new, is_number, wakes_pending, blocks_pending, pends}

module _ {D : Type 0} where
  -- the data of a mutex that nobody holds, unless it is out or was taken apart
  abbrev pub free_value : Mutex D → Option D
  free_value mutex = cond (is_none mutex.holder) (value_in mutex.content) None

  abbrev pub with_mutex : ℕ → Mutex D → World D → World D
  with_mutex n mutex w = with_object n (object.Mutex mutex) w

  -- a mutex that nobody holds
  abbrev pub mutex_new : D → World D → Result (Entry D × World D) FailureKind
  mutex_new value w = Ok (Answered (reply.Mutex (length w.objects)), with_new (object.Mutex (record { holder = None; content = kept value })) w)

  -- the thread reaches a branch point, and is blocked there while the mutex is held
  abbrev pub lock_begins : ℕ → World D → Result (Entry D × World D) FailureKind
  lock_begins n w = do
    mutex ← a_mutex n w
    Ok (AtBranch, pends (task.Lock Untimed n) (is_some mutex.holder) w)

  -- a lock that doesn't wait is blocked only where another thread comes first
  abbrev pub try_lock_begins : ℕ → World D → Result (Entry D × World D) FailureKind
  try_lock_begins n w = do
    _ ← a_mutex n w
    Ok (AtBranch, pends (task.TryLock n) false w)

  -- no time of a wait runs out
  abbrev pub locked_reply : Locking → ℕ → D → Reply D
  locked_reply Untimed n value = reply.Locked n value
  locked_reply Timed n value = reply.Waited n value false

  -- the active thread holds the mutex, acquires and has the data, and who is pending on it is blocked
  abbrev pub lock : Locking → ℕ → World D → Result (Reply D × World D) FailureKind
  lock locking n w = do
    mutex ← a_mutex n w
    value ← found (free_value mutex) Misuse
    Ok (locked_reply locking n value, blocks_pending n (acquires n (with_mutex n (record mutex { holder = Some w.active; content = handed_out mutex.content }) w)))

  abbrev pub locks_unless : Bool → ℕ → World D → Result (Reply D × World D) FailureKind
  locks_unless true n w = Ok (reply.WouldBlock, w)
  locks_unless false n w = lock Untimed n w

  abbrev pub try_lock : ℕ → World D → Result (Reply D × World D) FailureKind
  try_lock n w = do
    mutex ← a_mutex n w
    _ ← check (is_none mutex.content.lent) Misuse
    locks_unless (is_some mutex.holder) n w

  -- only its holder frees it, with its data, and releases; who is pending on it is woken
  abbrev pub frees : ℕ → D → World D → Result (⊤ × World D) FailureKind
  frees n value w = do
    mutex ← a_mutex n w
    _ ← check (is_number mutex.holder w.active) Misuse
    Ok (tt, wakes_pending n (releases n (with_mutex n (record mutex { holder = None; content = handed_back value mutex.content }) w)))

  abbrev pub release : ℕ → D → World D → Result (Entry D × World D) FailureKind
  release n value w = do
    freed ← frees n value w
    Ok (Answered reply.Done, freed.1)

  -- the data of a mutex that nobody holds goes out
  abbrev pub mutex_get_mut : ℕ → World D → Result (Entry D × World D) FailureKind
  mutex_get_mut n w = do
    mutex ← a_mutex n w
    value ← found (free_value mutex) Misuse
    Ok (Answered (reply.Data value), with_mutex n (record mutex { content = lent_to w.active mutex.content }) w)

  -- the thread that has it out puts some back
  abbrev pub mutex_put : ℕ → D → World D → Result (Entry D × World D) FailureKind
  mutex_put n value w = do
    mutex ← a_mutex n w
    _ ← check (is_number mutex.content.lent w.active) Misuse
    Ok (Answered reply.Done, with_mutex n (record mutex { content = put_back value mutex.content }) w)

  -- the data of a mutex that nobody holds, after which it is taken apart
  abbrev pub mutex_into_inner : ℕ → World D → Result (Entry D × World D) FailureKind
  mutex_into_inner n w = do
    mutex ← a_mutex n w
    value ← found (free_value mutex) Misuse
    Ok (Answered (reply.Data value), with_mutex n (record mutex { content = taken_apart mutex.content }) w)

  abbrev pub mutex_begins : MutexOp D → World D → Result (Entry D × World D) FailureKind
  mutex_begins (New value) w = mutex_new value w
  mutex_begins (Lock n) w = lock_begins n w
  mutex_begins (TryLock n) w = try_lock_begins n w
  mutex_begins (Release n value) w = release n value w
  mutex_begins (GetMut n) w = mutex_get_mut n w
  mutex_begins (Put n value) w = mutex_put n value w
  mutex_begins (IntoInner n) w = mutex_into_inner n w

  -- memory may be refused where a mutex is made
  abbrev pub needs_memory : MutexOp D → Bool
  needs_memory (New value) = true
  needs_memory _ = false
