-- Operations over slots, as a thread hands them over: by the numbers that its slots keep, and by what values stand for.
use Rattle.std.specs.Prelude.{ℕ, Option, Some, None}
use Rattle.loom_objects.specs.declared.operation.ArcOp.{ArcOp}
use Rattle.loom_objects.specs.declared.operation.ArcOp.TheVariants as arc
use Rattle.loom_objects.specs.declared.operation.AtomicOp.{AtomicOp}
use Rattle.loom_objects.specs.declared.operation.AtomicOp.TheVariants as atomic
use Rattle.loom_objects.specs.declared.operation.AtomicWakerOp.{AtomicWakerOp}
use Rattle.loom_objects.specs.declared.operation.AtomicWakerOp.TheVariants as place
use Rattle.loom_objects.specs.declared.operation.CellOp.{CellOp}
use Rattle.loom_objects.specs.declared.operation.CellOp.TheVariants as cell
use Rattle.loom_objects.specs.declared.operation.ChannelOp.{ChannelOp}
use Rattle.loom_objects.specs.declared.operation.ChannelOp.TheVariants as channel
use Rattle.loom_objects.specs.declared.operation.CondvarOp.{CondvarOp}
use Rattle.loom_objects.specs.declared.operation.CondvarOp.TheVariants as condvar
use Rattle.loom_objects.specs.declared.operation.LazyOp.{LazyOp}
use Rattle.loom_objects.specs.declared.operation.LazyOp.TheVariants as lazy
use Rattle.loom_objects.specs.declared.operation.LocalOp.{LocalOp}
use Rattle.loom_objects.specs.declared.operation.LocalOp.TheVariants as local
use Rattle.loom_objects.specs.declared.operation.MutexOp.{MutexOp}
use Rattle.loom_objects.specs.declared.operation.MutexOp.TheVariants as mutex
use Rattle.loom_objects.specs.declared.operation.NotifyOp.{NotifyOp}
use Rattle.loom_objects.specs.declared.operation.NotifyOp.TheVariants as notify
use Rattle.loom_objects.specs.declared.operation.RwLockOp.{RwLockOp}
use Rattle.loom_objects.specs.declared.operation.RwLockOp.TheVariants as rwlock
use Rattle.loom_objects.specs.declared.operation.ThreadOp.{ThreadOp}
use Rattle.loom_objects.specs.declared.operation.ThreadOp.TheVariants as threads
use Rattle.loom_objects.specs.declared.operation.TrackOp.{TrackOp}
use Rattle.loom_objects.specs.declared.operation.TrackOp.TheVariants as track
use Rattle.loom_objects.specs.declared.operation.WakerOp.{WakerOp}
use Rattle.loom_objects.specs.declared.operation.WakerOp.TheVariants as waker
use Rattle.loom_examples.specs.declared.scripts.state.State.{State}
use Rattle.loom_examples.specs.declared.scripts.step.Value.{Value}
use Rattle.loom_examples.specs.Scripts.Running.{Running, spawned}
use Rattle.loom_examples.specs.Scripts.Slots.{number_of, object, thread, notifier}

-- what is made of a handle, if there is one
abbrev pub on : {A B : Type 0} → Option A → (A → Option B) → Option B
on None makes = None
on (Some handle) makes = makes handle

abbrev pub atomic_op : State → AtomicOp → Option AtomicOp
atomic_op s (atomic.New numbers value) = Some (atomic.New numbers value)
atomic_op s (atomic.Load slot order) = on (object s slot) (λ n. Some (atomic.Load n order))
atomic_op s (atomic.Store slot value order) = on (object s slot) (λ n. Some (atomic.Store n value order))
atomic_op s (atomic.Update slot change order) = on (object s slot) (λ n. Some (atomic.Update n change order))
atomic_op s (atomic.CompareExchange slot exchange) = on (object s slot) (λ n. Some (atomic.CompareExchange n exchange))
atomic_op s (atomic.CompareAndSwap slot expected new order) = on (object s slot) (λ n. Some (atomic.CompareAndSwap n expected new order))
atomic_op s (atomic.UnsyncLoad slot) = on (object s slot) (λ n. Some (atomic.UnsyncLoad n))
atomic_op s (atomic.IntoInner slot) = on (object s slot) (λ n. Some (atomic.IntoInner n))
atomic_op s (atomic.WithMut slot) = on (object s slot) (λ n. Some (atomic.WithMut n))
atomic_op s (atomic.WithMutEnd slot value) = on (object s slot) (λ n. Some (atomic.WithMutEnd n value))

abbrev pub cell_op : State → CellOp Value → Option (CellOp ℕ)
cell_op s (cell.New value) = Some (cell.New (number_of s value))
cell_op s (cell.Read slot) = on (object s slot) (λ n. Some (cell.Read n))
cell_op s (cell.ReadEnd slot) = on (object s slot) (λ n. Some (cell.ReadEnd n))
cell_op s (cell.Deref slot) = on (object s slot) (λ n. Some (cell.Deref n))
cell_op s (cell.Write slot) = on (object s slot) (λ n. Some (cell.Write n))
cell_op s (cell.WriteEnd slot value) = on (object s slot) (λ n. Some (cell.WriteEnd n (number_of s value)))
cell_op s (cell.IntoInner slot) = on (object s slot) (λ n. Some (cell.IntoInner n))
cell_op s (cell.Get slot) = on (object s slot) (λ n. Some (cell.Get n))
cell_op s (cell.Replace slot value) = on (object s slot) (λ n. Some (cell.Replace n (number_of s value)))
cell_op s (cell.Swap one other) = on (object s one) (λ n. on (object s other) (λ m. Some (cell.Swap n m)))

abbrev pub arc_op : State → ArcOp Value → Option (ArcOp ℕ)
arc_op s (arc.New value) = Some (arc.New (number_of s value))
arc_op s (arc.Clone slot) = on (object s slot) (λ n. Some (arc.Clone n))
arc_op s (arc.Drop slot) = on (object s slot) (λ n. Some (arc.Drop n))
arc_op s (arc.Get slot) = on (object s slot) (λ n. Some (arc.Get n))
arc_op s (arc.GetMut slot) = on (object s slot) (λ n. Some (arc.GetMut n))
arc_op s (arc.Put slot value) = on (object s slot) (λ n. Some (arc.Put n (number_of s value)))
arc_op s (arc.TryUnwrap slot) = on (object s slot) (λ n. Some (arc.TryUnwrap n))
arc_op s (arc.StrongCount slot) = on (object s slot) (λ n. Some (arc.StrongCount n))

abbrev pub track_op : State → TrackOp Value → Option (TrackOp ℕ)
track_op s (track.New value) = Some (track.New (number_of s value))
track_op s (track.GetRef slot) = on (object s slot) (λ n. Some (track.GetRef n))
track_op s (track.GetMut slot) = on (object s slot) (λ n. Some (track.GetMut n))
track_op s (track.Put slot value) = on (object s slot) (λ n. Some (track.Put n (number_of s value)))
track_op s (track.IntoInner slot) = on (object s slot) (λ n. Some (track.IntoInner n))
track_op s (track.Drop slot) = on (object s slot) (λ n. Some (track.Drop n))

abbrev pub mutex_op : State → MutexOp Value → Option (MutexOp ℕ)
mutex_op s (mutex.New value) = Some (mutex.New (number_of s value))
mutex_op s (mutex.Lock slot) = on (object s slot) (λ n. Some (mutex.Lock n))
mutex_op s (mutex.TryLock slot) = on (object s slot) (λ n. Some (mutex.TryLock n))
mutex_op s (mutex.Release slot value) = on (object s slot) (λ n. Some (mutex.Release n (number_of s value)))
mutex_op s (mutex.GetMut slot) = on (object s slot) (λ n. Some (mutex.GetMut n))
mutex_op s (mutex.Put slot value) = on (object s slot) (λ n. Some (mutex.Put n (number_of s value)))
mutex_op s (mutex.IntoInner slot) = on (object s slot) (λ n. Some (mutex.IntoInner n))

abbrev pub rwlock_op : State → RwLockOp Value → Option (RwLockOp ℕ)
rwlock_op s (rwlock.New value) = Some (rwlock.New (number_of s value))
rwlock_op s (rwlock.Read slot) = on (object s slot) (λ n. Some (rwlock.Read n))
rwlock_op s (rwlock.TryRead slot) = on (object s slot) (λ n. Some (rwlock.TryRead n))
rwlock_op s (rwlock.ReadRelease slot) = on (object s slot) (λ n. Some (rwlock.ReadRelease n))
rwlock_op s (rwlock.Write slot) = on (object s slot) (λ n. Some (rwlock.Write n))
rwlock_op s (rwlock.TryWrite slot) = on (object s slot) (λ n. Some (rwlock.TryWrite n))
rwlock_op s (rwlock.WriteRelease slot value) = on (object s slot) (λ n. Some (rwlock.WriteRelease n (number_of s value)))
rwlock_op s (rwlock.GetMut slot) = on (object s slot) (λ n. Some (rwlock.GetMut n))
rwlock_op s (rwlock.Put slot value) = on (object s slot) (λ n. Some (rwlock.Put n (number_of s value)))
rwlock_op s (rwlock.IntoInner slot) = on (object s slot) (λ n. Some (rwlock.IntoInner n))

-- a wait is with the mutex in the second slot
abbrev pub condvar_op : State → CondvarOp Value → Option (CondvarOp ℕ)
condvar_op s condvar.New = Some condvar.New
condvar_op s (condvar.Wait slot mutex value) =
    on (object s slot) (λ n. on (object s mutex) (λ m. Some (condvar.Wait n m (number_of s value))))
condvar_op s (condvar.WaitTimeout slot mutex value) =
    on (object s slot) (λ n. on (object s mutex) (λ m. Some (condvar.WaitTimeout n m (number_of s value))))
condvar_op s (condvar.NotifyOne slot) = on (object s slot) (λ n. Some (condvar.NotifyOne n))
condvar_op s (condvar.NotifyAll slot) = on (object s slot) (λ n. Some (condvar.NotifyAll n))

abbrev pub notify_op : State → NotifyOp → Option NotifyOp
notify_op s notify.New = Some notify.New
notify_op s (notify.Notify slot) = on (object s slot) (λ n. Some (notify.Notify n))
notify_op s (notify.Wait slot) = on (object s slot) (λ n. Some (notify.Wait n))

abbrev pub channel_op : State → ChannelOp Value → Option (ChannelOp ℕ)
channel_op s channel.New = Some channel.New
channel_op s (channel.Send slot value) = on (object s slot) (λ n. Some (channel.Send n (number_of s value)))
channel_op s (channel.Recv slot) = on (object s slot) (λ n. Some (channel.Recv n))
channel_op s (channel.TryRecv slot) = on (object s slot) (λ n. Some (channel.TryRecv n))
channel_op s (channel.CloneSender slot) = on (object s slot) (λ n. Some (channel.CloneSender n))
channel_op s (channel.DropSender slot) = on (object s slot) (λ n. Some (channel.DropSender n))
channel_op s (channel.DropReceiver slot) = on (object s slot) (λ n. Some (channel.DropReceiver n))

abbrev pub waker_op : State → WakerOp → Option WakerOp
waker_op s waker.New = Some waker.New
waker_op s (waker.Wait slot) = on (object s slot) (λ n. Some (waker.Wait n))
waker_op s (waker.Finish slot) = on (object s slot) (λ n. Some (waker.Finish n))
waker_op s (waker.Clone slot) = on (object s slot) (λ n. Some (waker.Clone n))
waker_op s (waker.Wake slot) = on (object s slot) (λ n. Some (waker.Wake n))
waker_op s (waker.WakeByRef slot) = on (object s slot) (λ n. Some (waker.WakeByRef n))
waker_op s (waker.Drop slot) = on (object s slot) (λ n. Some (waker.Drop n))

-- a waker is registered in the place in the first slot
abbrev pub place_op : State → AtomicWakerOp → Option AtomicWakerOp
place_op s place.New = Some place.New
place_op s (place.Register slot by) = on (object s slot) (λ n. on (object s by) (λ c. Some (place.Register n c)))
place_op s (place.RegisterByRef slot by) = on (object s slot) (λ n. on (object s by) (λ c. Some (place.RegisterByRef n c)))
place_op s (place.Wake slot) = on (object s slot) (λ n. Some (place.Wake n))
place_op s (place.TakeWaker slot) = on (object s slot) (λ n. Some (place.TakeWaker n))
place_op s (place.Drop slot) = on (object s slot) (λ n. Some (place.Drop n))

-- a step has the key itself
abbrev pub local_op : State → LocalOp Value → LocalOp ℕ
local_op s (local.With key) = local.With key
local_op s (local.TryWith key) = local.TryWith key
local_op s (local.Init key value) = local.Init key (number_of s value)
local_op s (local.Put key value) = local.Put key (number_of s value)

abbrev pub lazy_op : State → LazyOp Value → LazyOp ℕ
lazy_op s (lazy.Get key) = lazy.Get key
lazy_op s (lazy.Init key value) = lazy.Init key (number_of s value)

-- a spawn's number is the step at which the new thread begins
abbrev pub thread_op : Running → ThreadOp Value ℕ → Option (ThreadOp ℕ Running)
thread_op s (threads.Spawn at name) = Some (threads.Spawn (spawned s at) name)
thread_op s (threads.Join slot again) = on (thread s.state slot) (λ t. on (notifier s.state again) (λ n. Some (threads.Join t n)))
thread_op s threads.Current = Some threads.Current
thread_op s threads.Park = Some threads.Park
thread_op s (threads.Unpark slot) = on (thread s.state slot) (λ t. Some (threads.Unpark t))
thread_op s threads.Yield = Some threads.Yield
thread_op s (threads.Finish value) = Some (threads.Finish (number_of s.state value))
thread_op s threads.Exit = Some threads.Exit
thread_op s threads.End = Some threads.End
