-- The read-write locks that replies hold.
use Rattle.std.specs.Prelude.{Option, Some, None}
use Rattle.loom_objects.specs.declared.operation.Reply.{Reply}
use Rattle.loom_objects.specs.declared.operation.Reply.TheVariants.{ReadLocked, RwLock as RwLockMade, WriteLocked}
use Rattle.loom_ops.specs.declared.sync.rwlock.RwLock.{RwLock}
use Rattle.loom_ops.specs.declared.sync.rwlock.RwLockReadGuard.{RwLockReadGuard}
use Rattle.loom_ops.specs.declared.sync.rwlock.RwLockWriteGuard.{RwLockWriteGuard}

module _ {D : Type 0} where
  -- the read-write lock that was made
  abbrev pub rwlock_handle : Reply D → Option RwLock
  rwlock_handle (RwLockMade number) = Some (record { number = number })
  rwlock_handle _ = None

  -- the lock that the thread reads now
  abbrev pub read_guard_handle : Reply D → Option RwLockReadGuard
  read_guard_handle (ReadLocked number value) = Some (record { number = number })
  read_guard_handle _ = None

  -- the lock that the thread writes now
  abbrev pub write_guard_handle : Reply D → Option RwLockWriteGuard
  write_guard_handle (WriteLocked number value) = Some (record { number = number })
  write_guard_handle _ = None

  -- the lock that the thread reads now, and a copy of its data
  abbrev pub read_guard_taken : Reply D → Option (RwLockReadGuard × D)
  read_guard_taken (ReadLocked number value) = Some (record { number = number }, value)
  read_guard_taken _ = None

  -- the lock that the thread writes now, and its data
  abbrev pub write_guard_taken : Reply D → Option (RwLockWriteGuard × D)
  write_guard_taken (WriteLocked number value) = Some (record { number = number }, value)
  write_guard_taken _ = None
