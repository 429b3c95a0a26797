-- Operations and replies apart from their data: `tt` stands in the place of each value, and a list has as many.
use Rattle.std.specs.Prelude.{Bool, false, map, true, ⊤}
use Rattle.loom_objects.specs.Operation.Labelled.{Op}
use Rattle.loom_objects.specs.declared.operation.Request.{Request}
use Rattle.loom_objects.specs.declared.operation.ThreadOp.{ThreadOp}
use Rattle.loom_objects.specs.declared.operation.ArcOp.{ArcOp}
use Rattle.loom_objects.specs.declared.operation.ArcOp.TheVariants as arc
use Rattle.loom_objects.specs.declared.operation.CellOp.{CellOp}
use Rattle.loom_objects.specs.declared.operation.CellOp.TheVariants as cell
use Rattle.loom_objects.specs.declared.operation.ChannelOp.{ChannelOp}
use Rattle.loom_objects.specs.declared.operation.ChannelOp.TheVariants as channel
use Rattle.loom_objects.specs.declared.operation.CondvarOp.{CondvarOp}
use Rattle.loom_objects.specs.declared.operation.CondvarOp.TheVariants as condvar
use Rattle.loom_objects.specs.declared.operation.Keyed.{Keyed}
use Rattle.loom_objects.specs.declared.operation.Lazy.{Lazy}
use Rattle.loom_objects.specs.declared.operation.LazyOp.{LazyOp}
use Rattle.loom_objects.specs.declared.operation.LazyOp.TheVariants as lazy
use Rattle.loom_objects.specs.declared.operation.LocalOp.{LocalOp}
use Rattle.loom_objects.specs.declared.operation.LocalOp.TheVariants as local
use Rattle.loom_objects.specs.declared.operation.MutexOp.{MutexOp}
use Rattle.loom_objects.specs.declared.operation.MutexOp.TheVariants as mutex
use Rattle.loom_objects.specs.declared.operation.Request.TheVariants as op
use Rattle.loom_objects.specs.declared.operation.Reply.{Reply}
use Rattle.loom_objects.specs.declared.operation.Reply.TheVariants as reply
use Rattle.loom_objects.specs.declared.operation.RwLockOp.{RwLockOp}
use Rattle.loom_objects.specs.declared.operation.RwLockOp.TheVariants as rwlock
use Rattle.loom_objects.specs.declared.operation.ThreadOp.TheVariants as thread
use Rattle.loom_objects.specs.declared.operation.TrackOp.{TrackOp}
use Rattle.loom_objects.specs.declared.operation.TrackOp.TheVariants as track

module _ {D : Type 0} where
  -- an operation of a cell, without the data; and so of each other kind of object that has data
  abbrev pub bare_cell : CellOp D → CellOp ⊤
  bare_cell (cell.New value) = cell.New tt
  bare_cell (cell.Read n) = cell.Read n
  bare_cell (cell.ReadEnd n) = cell.ReadEnd n
  bare_cell (cell.Deref n) = cell.Deref n
  bare_cell (cell.Write n) = cell.Write n
  bare_cell (cell.WriteEnd n value) = cell.WriteEnd n tt
  bare_cell (cell.IntoInner n) = cell.IntoInner n
  bare_cell (cell.Get n) = cell.Get n
  bare_cell (cell.Replace n value) = cell.Replace n tt
  bare_cell (cell.Swap n other) = cell.Swap n other

  abbrev pub bare_arc : ArcOp D → ArcOp ⊤
  bare_arc (arc.New value) = arc.New tt
  bare_arc (arc.Clone n) = arc.Clone n
  bare_arc (arc.Drop n) = arc.Drop n
  bare_arc (arc.Get n) = arc.Get n
  bare_arc (arc.GetMut n) = arc.GetMut n
  bare_arc (arc.Put n value) = arc.Put n tt
  bare_arc (arc.TryUnwrap n) = arc.TryUnwrap n
  bare_arc (arc.StrongCount n) = arc.StrongCount n

  abbrev pub bare_track : TrackOp D → TrackOp ⊤
  bare_track (track.New value) = track.New tt
  bare_track (track.GetRef n) = track.GetRef n
  bare_track (track.GetMut n) = track.GetMut n
  bare_track (track.Put n value) = track.Put n tt
  bare_track (track.IntoInner n) = track.IntoInner n
  bare_track (track.Drop n) = track.Drop n

  abbrev pub bare_mutex : MutexOp D → MutexOp ⊤
  bare_mutex (mutex.New value) = mutex.New tt
  bare_mutex (mutex.Lock n) = mutex.Lock n
  bare_mutex (mutex.TryLock n) = mutex.TryLock n
  bare_mutex (mutex.Release n value) = mutex.Release n tt
  bare_mutex (mutex.GetMut n) = mutex.GetMut n
  bare_mutex (mutex.Put n value) = mutex.Put n tt
  bare_mutex (mutex.IntoInner n) = mutex.IntoInner n

  abbrev pub bare_rwlock : RwLockOp D → RwLockOp ⊤
  bare_rwlock (rwlock.New value) = rwlock.New tt
  bare_rwlock (rwlock.Read n) = rwlock.Read n
  bare_rwlock (rwlock.TryRead n) = rwlock.TryRead n
  bare_rwlock (rwlock.ReadRelease n) = rwlock.ReadRelease n
  bare_rwlock (rwlock.Write n) = rwlock.Write n
  bare_rwlock (rwlock.TryWrite n) = rwlock.TryWrite n
  bare_rwlock (rwlock.WriteRelease n value) = rwlock.WriteRelease n tt
  bare_rwlock (rwlock.GetMut n) = rwlock.GetMut n
  bare_rwlock (rwlock.Put n value) = rwlock.Put n tt
  bare_rwlock (rwlock.IntoInner n) = rwlock.IntoInner n

  abbrev pub bare_condvar : CondvarOp D → CondvarOp ⊤
  bare_condvar condvar.New = condvar.New
  bare_condvar (condvar.Wait n lock value) = condvar.Wait n lock tt
  bare_condvar (condvar.WaitTimeout n lock value) = condvar.WaitTimeout n lock tt
  bare_condvar (condvar.NotifyOne n) = condvar.NotifyOne n
  bare_condvar (condvar.NotifyAll n) = condvar.NotifyAll n

  abbrev pub bare_channel : ChannelOp D → ChannelOp ⊤
  bare_channel channel.New = channel.New
  bare_channel (channel.Send n value) = channel.Send n tt
  bare_channel (channel.Recv n) = channel.Recv n
  bare_channel (channel.TryRecv n) = channel.TryRecv n
  bare_channel (channel.CloneSender n) = channel.CloneSender n
  bare_channel (channel.DropSender n) = channel.DropSender n
  bare_channel (channel.DropReceiver n) = channel.DropReceiver n

  abbrev pub bare_local : LocalOp D → LocalOp ⊤
  bare_local (local.With key) = local.With key
  bare_local (local.TryWith key) = local.TryWith key
  bare_local (local.Init key value) = local.Init key tt
  bare_local (local.Put key value) = local.Put key tt

  abbrev pub bare_lazy : LazyOp D → LazyOp ⊤
  bare_lazy (lazy.Get key) = lazy.Get key
  bare_lazy (lazy.Init key value) = lazy.Init key tt

  -- what a spawn starts is left out too
  abbrev pub bare_thread : {S : Type 0} → ThreadOp D S → ThreadOp ⊤ ⊤
  bare_thread (thread.Spawn body name) = thread.Spawn tt name
  bare_thread (thread.Join number notifier) = thread.Join number notifier
  bare_thread thread.Current = thread.Current
  bare_thread thread.Park = thread.Park
  bare_thread (thread.Unpark number) = thread.Unpark number
  bare_thread thread.Yield = thread.Yield
  bare_thread (thread.Finish value) = thread.Finish tt
  bare_thread thread.Exit = thread.Exit
  bare_thread thread.End = thread.End

  -- what is asked for, without the data
  abbrev pub bare_request : {S : Type 0} → Request D S → Request ⊤ ⊤
  bare_request (op.Atomic todo) = op.Atomic todo
  bare_request (op.Fence order) = op.Fence order
  bare_request (op.Cell todo) = op.Cell (bare_cell todo)
  bare_request (op.Arc todo) = op.Arc (bare_arc todo)
  bare_request (op.Track todo) = op.Track (bare_track todo)
  bare_request (op.Mutex todo) = op.Mutex (bare_mutex todo)
  bare_request (op.RwLock todo) = op.RwLock (bare_rwlock todo)
  bare_request (op.Condvar todo) = op.Condvar (bare_condvar todo)
  bare_request (op.Notify todo) = op.Notify todo
  bare_request (op.Channel todo) = op.Channel (bare_channel todo)
  bare_request (op.Waker todo) = op.Waker todo
  bare_request (op.AtomicWaker todo) = op.AtomicWaker todo
  bare_request (op.Local todo) = op.Local (bare_local todo)
  bare_request (op.Lazy todo) = op.Lazy (bare_lazy todo)
  bare_request (op.Explore todo) = op.Explore todo
  bare_request (op.Thread todo) = op.Thread (bare_thread todo)
  bare_request op.Fail = op.Fail
  bare_request op.Unreachable = op.Unreachable

  -- the operation, without its data
  abbrev pub bare_op : {S : Type 0} → Op D S → Op ⊤ ⊤
  bare_op op = record { request = bare_request op.request; label = op.label }

  -- a message of a channel, without what it holds
  abbrev pub nothing : D → ⊤
  nothing value = tt

  -- a thread's own value, without what it holds
  abbrev pub bare_local_value : Keyed D → Keyed ⊤
  bare_local_value kept = record { key = kept.key; value = tt }

  -- a value that was made once in the run, without what it holds
  abbrev pub bare_lazy_value : Lazy D → Lazy ⊤
  bare_lazy_value made = record { key = made.key; value = tt; stamp = made.stamp }

  -- the reply, without its data
  abbrev pub bare_reply : Reply D → Reply ⊤
  bare_reply reply.Start = reply.Start
  bare_reply reply.Done = reply.Done
  bare_reply (reply.Atomic n) = reply.Atomic n
  bare_reply (reply.Value value) = reply.Value value
  bare_reply (reply.Exchanged answer) = reply.Exchanged answer
  bare_reply (reply.Data value) = reply.Data tt
  bare_reply (reply.Cell n) = reply.Cell n
  bare_reply (reply.Reading n value) = reply.Reading n tt
  bare_reply (reply.Writing n value) = reply.Writing n tt
  bare_reply (reply.Arc n) = reply.Arc n
  bare_reply reply.Shared = reply.Shared
  bare_reply (reply.Track n) = reply.Track n
  bare_reply (reply.Mutex n) = reply.Mutex n
  bare_reply (reply.Locked n value) = reply.Locked n tt
  bare_reply (reply.Waited n value timed_out) = reply.Waited n tt timed_out
  bare_reply reply.WouldBlock = reply.WouldBlock
  bare_reply (reply.RwLock n) = reply.RwLock n
  bare_reply (reply.ReadLocked n value) = reply.ReadLocked n tt
  bare_reply (reply.WriteLocked n value) = reply.WriteLocked n tt
  bare_reply (reply.Condvar n) = reply.Condvar n
  bare_reply (reply.Notify n) = reply.Notify n
  bare_reply (reply.Channel n) = reply.Channel n
  bare_reply reply.Empty = reply.Empty
  bare_reply reply.RecvError = reply.RecvError
  bare_reply reply.Disconnected = reply.Disconnected
  bare_reply (reply.SendError value) = reply.SendError tt
  bare_reply (reply.Messages values) = reply.Messages (map nothing values)
  bare_reply (reply.BlockOn n) = reply.BlockOn n
  bare_reply (reply.Waker n) = reply.Waker n
  bare_reply reply.NoWaker = reply.NoWaker
  bare_reply (reply.AtomicWaker n) = reply.AtomicWaker n
  bare_reply reply.Absent = reply.Absent
  bare_reply reply.AccessError = reply.AccessError
  bare_reply (reply.Stood value other) = reply.Stood tt tt
  bare_reply (reply.Locals values) = reply.Locals (map bare_local_value values)
  bare_reply (reply.Lazies values) = reply.Lazies (map bare_lazy_value values)
  bare_reply (reply.Thread number name) = reply.Thread number name
  bare_reply (reply.Spawned number name notifier) = reply.Spawned number name notifier

  -- it holds a list of values
  abbrev pub holds_list : Reply D → Bool
  holds_list (reply.Messages values) = true
  holds_list (reply.Locals values) = true
  holds_list (reply.Lazies values) = true
  holds_list _ = false
