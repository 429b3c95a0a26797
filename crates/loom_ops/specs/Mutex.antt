-- The mutexes that replies hold, and that a lock wasn't waited for.
use Rattle.std.specs.Prelude.{Option, Some, None}
use Rattle.loom_objects.specs.declared.operation.Reply.{Reply}
use Rattle.loom_objects.specs.declared.operation.Reply.TheVariants.{Locked, Waited, Mutex as MutexMade, WouldBlock as Blocked}
use Rattle.loom_ops.specs.declared.sync.mutex.Mutex.{Mutex}
use Rattle.loom_ops.specs.declared.sync.mutex.MutexGuard.{MutexGuard}
use Rattle.loom_ops.specs.declared.sync.try_lock.TryLockError.{TryLockError}
use Rattle.loom_ops.specs.declared.sync.try_lock.TryLockError.TheVariants.{WouldBlock}

module _ {D : Type 0} where
  -- the mutex that was made
  abbrev pub mutex_handle : Reply D → Option Mutex
  mutex_handle (MutexMade number) = Some (record { number = number })
  mutex_handle _ = None

  -- the mutex that the thread holds now
  abbrev pub guard_handle : Reply D → Option MutexGuard
  guard_handle (Locked number value) = Some (record { number = number })
  guard_handle (Waited number value timed_out) = Some (record { number = number })
  guard_handle _ = None

  -- the mutex that the thread holds now, and its data
  abbrev pub guard_taken : Reply D → Option (MutexGuard × D)
  guard_taken (Locked number value) = Some (record { number = number }, value)
  guard_taken (Waited number value timed_out) = Some (record { number = number }, value)
  guard_taken _ = None

  -- that another thread holds the lock
  abbrev pub try_lock_error : Reply D → Option TryLockError
  try_lock_error Blocked = Some WouldBlock
  try_lock_error _ = None
