-- What replies hold for the closures that have made the operations.
use Rattle.std.specs.Prelude.{Option, Some, None, Result, Ok, Err, ℕ, ⊤}
use Rattle.loom_objects.specs.declared.operation.Reply.{Reply}
use Rattle.loom_objects.specs.declared.operation.Reply.TheVariants.{Done, Data, Channel, SendError, RecvError, Empty as IsEmpty, Disconnected as IsDisconnected, Messages, Locked, Waited, WouldBlock, ReadLocked, WriteLocked, Value, Exchanged, Shared, Absent, AccessError as GivenBack, Stood, Waker as WakerTaken, NoWaker}
use Rattle.loom_ops.specs.declared.sync.mpsc.Receiver.{Receiver}
use Rattle.loom_ops.specs.declared.sync.mpsc.Sender.{Sender}
use Rattle.loom_ops.specs.declared.cell.Given.{Given}
use Rattle.loom_ops.specs.declared.sync.mpsc.Drained.{Drained}
use Rattle.loom_ops.specs.declared.sync.mpsc.Received.{Received}
use Rattle.loom_ops.specs.declared.sync.mpsc.Sent.{Sent}
use Rattle.loom_ops.specs.declared.sync.mpsc.TriedReceive.{TriedReceive}
use Rattle.loom_ops.specs.declared.sync.mpsc.TryRecvError.TheVariants.{Empty, Disconnected}
use Rattle.loom_ops.specs.declared.future.Waker.{Waker}
use Rattle.loom_ops.specs.declared.lazy_static.Standing.{Standing}
use Rattle.loom_ops.specs.declared.sync.arc.Alone.{Alone}
use Rattle.loom_ops.specs.declared.sync.arc.Left.{Left}
use Rattle.loom_ops.specs.declared.sync.atomic.Loaded.{Loaded}
use Rattle.loom_ops.specs.declared.sync.condvar.WaitTimeoutResult.{WaitTimeoutResult}
use Rattle.loom_ops.specs.declared.sync.mutex.MutexGuard.{MutexGuard}
use Rattle.loom_ops.specs.declared.sync.mutex.Tried.{Tried}
use Rattle.loom_ops.specs.declared.sync.rwlock.RwLockReadGuard.{RwLockReadGuard}
use Rattle.loom_ops.specs.declared.sync.rwlock.RwLockWriteGuard.{RwLockWriteGuard}
use Rattle.loom_ops.specs.declared.thread.Joined.{Joined}
use Rattle.loom_ops.specs.declared.thread.Present.{Present}
use Rattle.loom_ops.specs.declared.thread.TriedLocal.{TriedLocal}

-- what a compare-exchange has read, as its reply holds it
abbrev pub as_loaded : {T : Type 0} → Result T T → Result (Loaded T) (Loaded T)
as_loaded (Ok value) = Ok (record { 0 = value })
as_loaded (Err value) = Err (record { 0 = value })

module _ {D : Type 0} where
  -- what an object holds, or held
  abbrev pub given_in : Reply D → Option (Given D)
  given_in (Data value) = Some (record { 0 = value })
  given_in _ = None

  -- the value of a reference that was dropped, if it was the last one
  abbrev pub left_in : Reply D → Option (Left D)
  left_in (Data value) = Some (record { 0 = Some value })
  left_in Done = Some (record { 0 = None })
  left_in _ = None

  -- the value of a reference, if it is the only one
  abbrev pub alone_in : Reply D → Option (Alone D)
  alone_in (Data value) = Some (record { 0 = Some value })
  alone_in Shared = Some (record { 0 = None })
  alone_in _ = None

  -- both ends of the channel that was made
  abbrev pub channel_in : Reply D → Option (Sender × Receiver)
  channel_in (Channel number) = Some (record { number = number }, record { number = number })
  channel_in _ = None

  -- that the message was sent, or the message
  abbrev pub sent_in : Reply D → Option (Sent D)
  sent_in Done = Some (record { 0 = Ok tt })
  sent_in (SendError message) = Some (record { 0 = Err message })
  sent_in _ = None

  -- the message, or that none comes any more
  abbrev pub received_in : Reply D → Option (Received D)
  received_in (Data message) = Some (record { 0 = Some message })
  received_in RecvError = Some (record { 0 = None })
  received_in _ = None

  -- the message, or why none was received without waiting
  abbrev pub tried_receive_in : Reply D → Option (TriedReceive D)
  tried_receive_in (Data message) = Some (record { 0 = Ok message })
  tried_receive_in IsEmpty = Some (record { 0 = Err Empty })
  tried_receive_in IsDisconnected = Some (record { 0 = Err Disconnected })
  tried_receive_in _ = None

  -- the messages that a receiver has left
  abbrev pub drained_in : Reply D → Option (Drained D)
  drained_in (Messages messages) = Some (record { 0 = messages })
  drained_in _ = None

module _ {D : Type 0} where
  -- that it is done
  abbrev pub done_in : Reply D → Option ⊤
  done_in Done = Some tt
  done_in _ = None

  -- the mutex that the thread holds now, and its data
  abbrev pub guard_in : Reply D → Option (MutexGuard × D)
  guard_in (Locked number value) = Some (record { number = number }, value)
  guard_in _ = None

  -- the mutex that the thread holds now, and its data, or that it is held
  abbrev pub tried_in : Reply D → Option (Tried D)
  tried_in (Locked number value) = Some (record { 0 = Some (record { number = number }, value) })
  tried_in WouldBlock = Some (record { 0 = None })
  tried_in _ = None

  -- the mutex that the thread holds again after a wait with a time, its data, and whether the time ran out
  abbrev pub waited_in : Reply D → Option ((MutexGuard × D) × WaitTimeoutResult)
  waited_in (Waited number value timed_out) = Some ((record { number = number }, value), record { 0 = timed_out })
  waited_in _ = None

  -- the lock that the thread reads now, and a copy of its data, or that a thread writes
  abbrev pub tried_read_in : Reply D → Option (Option (RwLockReadGuard × D))
  tried_read_in (ReadLocked number value) = Some (Some (record { number = number }, value))
  tried_read_in WouldBlock = Some None
  tried_read_in _ = None

  -- the lock that the thread writes now, and its data, or that a thread reads or writes
  abbrev pub tried_write_in : Reply D → Option (Option (RwLockWriteGuard × D))
  tried_write_in (WriteLocked number value) = Some (Some (record { number = number }, value))
  tried_write_in WouldBlock = Some None
  tried_write_in _ = None

  -- the key's value, if it has one
  abbrev pub present_in : Reply D → Option (Present D)
  present_in (Data value) = Some (record { 0 = Some value })
  present_in Absent = Some (record { 0 = None })
  present_in _ = None

  -- the thread's own value, if it has one, or that it was given back
  abbrev pub tried_local_in : Reply D → Option (TriedLocal D)
  tried_local_in (Data value) = Some (record { 0 = Ok (Some value) })
  tried_local_in Absent = Some (record { 0 = Ok None })
  tried_local_in GivenBack = Some (record { 0 = Err (record {}) })
  tried_local_in _ = None

  -- the value that stands once one was given, and that one, if another stood before
  abbrev pub standing_in : Reply D → Option (Standing D)
  standing_in (Data value) = Some (record { value = value; spare = None })
  standing_in (Stood value spare) = Some (record { value = value; spare = Some spare })
  standing_in _ = None

  -- the waker that was taken out of its place, if one was there
  abbrev pub taken_in : Reply D → Option (Option Waker)
  taken_in (WakerTaken number) = Some (Some (record { number = number }))
  taken_in NoWaker = Some None
  taken_in _ = None

  -- the result of the thread that was joined
  abbrev pub joined_in : Reply D → Option (Joined D)
  joined_in (Data value) = Some (record { 0 = value })
  joined_in _ = None

  -- the value that was read, or replaced
  abbrev pub loaded_in : {T : Type 0} → (ℕ → T) → Reply D → Option (Loaded T)
  loaded_in value (Value number) = Some (record { 0 = value number })
  loaded_in value _ = None

  -- what a compare-exchange has read
  abbrev pub exchanged_in : {T : Type 0} → (ℕ → T) → Reply D → Option (Result (Loaded T) (Loaded T))
  exchanged_in value (Exchanged (Ok number)) = Some (Ok (record { 0 = value number }))
  exchanged_in value (Exchanged (Err number)) = Some (Err (record { 0 = value number }))
  exchanged_in value _ = None
