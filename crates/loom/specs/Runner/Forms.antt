-- What the forms of several operations do: those around a closure, those by which a closure makes a value, and those that ask a
-- closure again and again.
use Rattle.std.specs.Prelude.{ℕ, ◌≡◌, ◌⊎◌, ⊤, Bool, true, false, List, Option, Some, None, Result, Ok, Err}
use Rattle.loom_objects.specs.declared.operation.Request.{Request}
use Rattle.loom_objects.specs.declared.operation.Request.TheVariants as op
use Rattle.loom_objects.specs.declared.operation.ArcOp.TheVariants as arc_op
use Rattle.loom_objects.specs.declared.operation.AtomicOp.TheVariants as atomic_op
use Rattle.loom_objects.specs.declared.operation.CellOp.TheVariants as cell_op
use Rattle.loom_objects.specs.declared.operation.CondvarOp.TheVariants as condvar_op
use Rattle.loom_objects.specs.declared.operation.MutexOp.TheVariants as mutex_op
use Rattle.loom_objects.specs.declared.operation.ThreadOp.TheVariants as thread_op
use Rattle.loom_objects.specs.declared.operation.WakerOp.TheVariants as waker_op
use Rattle.loom_objects.specs.declared.operation.Reply.{Reply}
use Rattle.loom_ops.specs.Atomic.{exchange}
use Rattle.loom_ops.specs.Waker.{block_on_handle}
use Rattle.loom_ops.specs.declared.cell.ConstPtr.{ConstPtr}
use Rattle.loom_ops.specs.declared.cell.Given.{Given}
use Rattle.loom_ops.specs.declared.cell.MutPtr.{MutPtr}
use Rattle.loom_ops.specs.declared.cell.UnsafeCell.{UnsafeCell}
use Rattle.loom_ops.specs.declared.future.BlockOn.{BlockOn}
use Rattle.loom_ops.specs.declared.future.Waker.{Waker}
use Rattle.loom_ops.specs.declared.sync.arc.Alone.{Alone}
use Rattle.loom_ops.specs.declared.sync.arc.Arc.{Arc}
use Rattle.loom_ops.specs.declared.sync.atomic.Atomic.{Atomic}
use Rattle.loom_ops.specs.declared.sync.atomic.FetchUpdate.{FetchUpdate}
use Rattle.loom_ops.specs.declared.sync.atomic.Loaded.{Loaded}
use Rattle.loom_ops.specs.declared.sync.condvar.Condvar.{Condvar}
use Rattle.loom_ops.specs.declared.sync.mutex.Mutex.{Mutex}
use Rattle.loom_ops.specs.declared.sync.mutex.MutexGuard.{MutexGuard}
use Rattle.loom.specs.declared.runner.stop.Stop.{Stop}
use Rattle.loom.specs.declared.runner.history.event.Entry.{Entry}
use Rattle.loom.specs.Runner.Asking.{Tells, Stops, done_in, exchanged_in, guard_in, loaded_in, present_in}
use Rattle.loom.specs.Runner.Handle.{Teller}

-- ---- the operations

module _ {D : Type 0} where
  -- a mutex is locked, and released with this data
  abbrev pub locking : Mutex → Request D ⊤
  locking mutex = op.Mutex (mutex_op.Lock mutex.number)

  abbrev pub releasing : MutexGuard → D → Request D ⊤
  releasing guard value = op.Mutex (mutex_op.Release guard.number value)

  -- a cell is read, from here to there
  abbrev pub reading : UnsafeCell → Request D ⊤
  reading cell = op.Cell (cell_op.Read cell.number)

  abbrev pub read_ending : ConstPtr → D → Request D ⊤
  read_ending pointer value = op.Cell (cell_op.ReadEnd pointer.number)

  -- and written, with the data that it holds then
  abbrev pub writing : UnsafeCell → Request D ⊤
  writing cell = op.Cell (cell_op.Write cell.number)

  abbrev pub write_ending : MutPtr → D → Request D ⊤
  write_ending pointer value = op.Cell (cell_op.WriteEnd pointer.number value)

  -- the value of a reference that is alone is taken out, and put back
  abbrev pub getting : Arc → Request D ⊤
  getting arc = op.Arc (arc_op.GetMut arc.number)

  abbrev pub putting : Arc → ⊤ → D → Request D ⊤
  putting arc guard value = op.Arc (arc_op.Put arc.number value)

  -- an atomic is changed, from here to there, with the value that it holds then
  abbrev pub mutating : {T : Type 0} → Atomic T → Request D ⊤
  mutating atomic = op.Atomic (atomic_op.WithMut atomic.number)

  abbrev pub mutation_ending : {T : Type 0} → (T → ℕ) → Atomic T → ⊤ → T → Request D ⊤
  mutation_ending number atomic guard value = op.Atomic (atomic_op.WithMutEnd atomic.number (number value))

  -- a future is made, waited for, and ready
  abbrev pub beginning : Request D ⊤
  beginning = op.Waker waker_op.New

  abbrev pub awaiting : BlockOn → Request D ⊤
  awaiting future = op.Waker (waker_op.Wait future.number)

  abbrev pub ending : BlockOn → Request D ⊤
  ending future = op.Waker (waker_op.Finish future.number)

  -- others go on first
  abbrev pub yielding : Request D ⊤
  yielding = op.Thread thread_op.Yield

  -- the mutex that is held is released with its data, up to a notification
  abbrev pub waiting : Condvar → MutexGuard × D → Request D ⊤
  waiting condvar held = op.Condvar (condvar_op.Wait condvar.number held.0.number held.1)

-- ---- around a closure

-- how a reply holds what was taken: beside its guard, or where none stands for it, alone
abbrev pub beside : {G T : Type 0} → G → T → G × T
beside guard value = (guard, value)

abbrev pub given : {D : Type 0} → ⊤ → D → Given D
given guard value = record { 0 = value }

abbrev pub alone : {D : Type 0} → ⊤ → D → Alone D
alone guard value = record { 0 = Some value }

abbrev pub loaded : {T : Type 0} → ⊤ → T → Loaded T
loaded guard value = record { 0 = value }

module _ {D A G T H : Type 0} (held : Reply D → Option H) (hold : G → T → H) (take : Request D ⊤) (give : G → T → Request D ⊤) (called : T → A → T → Type 0) where
  -- the data was taken, and the closure was called with it, which has answered this and left that
  pub record IsTaken (old : List (Entry D)) (guard : G) (answer : A) (left : T) (mid : List (Entry D)) : Type 0 where
    pub found : T
    pub taken : Tells held take old mid (hold guard found)
    pub changed : called found answer left

  -- and what it has left was given back under the same guard: these are two operations
  pub record IsGivenBack (old new : List (Entry D)) (answer : A) : Type 0 where
    pub guard : G
    pub left : T
    pub mid : List (Entry D)
    pub taken : IsTaken old guard answer left mid
    pub given : Tells done_in (give guard left) mid new tt

  -- a stop came, and that wasn't given back
  pub record IsKept (old : List (Entry D)) (new : Teller D) (stop : Stop) : Type 0 where
    pub guard : G
    pub left : T
    pub answer : A
    pub mid : List (Entry D)
    pub taken : IsTaken old guard answer left mid
    pub kept : Stops done_in (give guard left) mid new stop

  -- a stop: nothing was taken, or nothing was given back
  abbrev pub StopsWithin : List (Entry D) → Teller D → Stop → Type 0
  StopsWithin old new stop = Stops held take old new stop ⊎ IsKept old new stop

-- ---- made by a closure

module _ {D X : Type 0} (held : Reply D → Option X) (value : X → D) (get : Request D ⊤) (init : D → Request D ⊤) (makes : D → Type 0) where
  -- there was none, and the closure made one
  pub record IsLacking (old : List (Entry D)) (made : D) (mid : List (Entry D)) : Type 0 where
    pub absent : Tells present_in get old mid (record { 0 = None })
    pub is_made : makes made

  -- which was given then, and this one stands
  pub record IsMade (old new : List (Entry D)) (stands : D) : Type 0 where
    pub made : D
    pub mid : List (Entry D)
    pub answer : X
    pub lacking : IsLacking old made mid
    pub gives : Tells held (init made) mid new answer
    pub answers : value answer ≡ stands

  -- a stop came, and it wasn't given
  pub record IsNotGiven (old : List (Entry D)) (new : Teller D) (stop : Stop) : Type 0 where
    pub made : D
    pub mid : List (Entry D)
    pub lacking : IsLacking old made mid
    pub stops : Stops held (init made) mid new stop

  -- the value was there, or was made
  abbrev pub IsHad : List (Entry D) → List (Entry D) → D → Type 0
  IsHad old new stands = Tells present_in get old new (record { 0 = Some stands }) ⊎ IsMade old new stands

  -- a stop: nobody said whether it is there, or it wasn't given
  abbrev pub StopsHaving : List (Entry D) → Teller D → Stop → Type 0
  StopsHaving old new stop = Stops present_in get old new stop ⊎ IsNotGiven old new stop

-- ---- again and again

-- the thread has made this operation
pub record Does {D : Type 0} (request : Request D ⊤) (old new : Teller D) : Type 0 where
  pub told : Tells done_in request old.told new.told tt
  pub thread : new.thread ≡ old.thread

module _ {D F : Type 0} (called : F → Teller D → Result Bool Stop → F → Teller D → Type 0) where
  -- The condition was asked some times, and answered false each time. Behind each of these tries the thread has yielded.
  pub data Tried (f : F) (old : Teller D) : F → Teller D → Type 0 where
    untried : Tried f old f old
    tried_again : (g h : F) (before asked new : Teller D) → Tried f old g before → called g before (Ok false) h asked → Does yielding asked new → Tried f old h new

  -- and in the last try it answered true
  pub record Holds (f : F) (old new : Teller D) : Type 0 where
    pub last : F
    pub left : F
    pub before : Teller D
    pub tried : Tried f old last before
    pub holds : called last before (Ok true) left new

  -- a stop was answered in the last try: to the condition, or where it was false to the yield
  pub record StopsTrying (f : F) (old new : Teller D) (stop : Stop) : Type 0 where
    pub last : F
    pub left : F
    pub before : Teller D
    pub tried : Tried f old last before
    pub stops : called last before (Err stop) left new ⊎ ((asked : Teller D) × called last before (Ok false) left asked × Stops done_in yielding asked.told new stop)

module _ {D F : Type 0} (called : F → D → Bool → F → Type 0) (condvar : Condvar) where
  -- The closure was asked some times of the data under the lock, and answered true each time. Behind each of these tries the thread
  -- has waited, and has the lock and the data again.
  pub data Slept (f : F) (first : MutexGuard × D) (old : List (Entry D)) : F → MutexGuard × D → List (Entry D) → Type 0 where
    awake : Slept f first old f first old
    slept_again : (g h : F) (held next : MutexGuard × D) (mid new : List (Entry D)) → Slept f first old g held mid → called g held.1 true h → Tells guard_in (waiting condvar held) mid new next → Slept f first old h next new

  -- and in the last try it answered false of this data
  pub record Wakes (f : F) (first : MutexGuard × D) (old new : List (Entry D)) (held : MutexGuard × D) : Type 0 where
    pub last : F
    pub left : F
    pub slept : Slept f first old last held new
    pub wakes : called last held.1 false left

  -- it answered true in the last try, and a stop was answered to the wait
  pub record StopsSleeping (f : F) (first : MutexGuard × D) (old : List (Entry D)) (new : Teller D) (stop : Stop) : Type 0 where
    pub last : F
    pub left : F
    pub held : MutexGuard × D
    pub mid : List (Entry D)
    pub slept : Slept f first old last held mid
    pub sleeps : called last held.1 true left
    pub stops : Stops guard_in (waiting condvar held) mid new stop

module _ {D T F : Type 0} (value : ℕ → T) (number : T → ℕ) (called : F → T → Option T → F → Type 0) (update : FetchUpdate T) where
  abbrev pub fetching : Request D ⊤
  fetching = op.Atomic (atomic_op.Load update.atomic.number update.fetch_order)

  abbrev pub exchanging : T → T → Request D ⊤
  exchanging read next = (exchange update.atomic.number (number read) (number next) update.set_order update.fetch_order).request

  -- The atomic was loaded, and the closure made a next value of what was read last, some times. Behind each of these tries an exchange
  -- has found another value, which is read then.
  pub data Fetches (f : F) (old : List (Entry D)) : F → T → List (Entry D) → Type 0 where
    fetched : (read : T) (new : List (Entry D)) → Tells (loaded_in value) fetching old new (record { 0 = read }) → Fetches f old f read new
    fetched_again : (g h : F) (read next other : T) (mid new : List (Entry D)) → Fetches f old g read mid → called g read (Some next) h → Tells (exchanged_in value) (exchanging read next) mid new (Err (record { 0 = other })) → Fetches f old h other new

  -- in the last try the next value has replaced what was read; or the closure made none of it, and nothing is done
  abbrev pub Settles : F → T → F → List (Entry D) → List (Entry D) → Result T T → Type 0
  Settles last read left mid new (Ok replaced) = (next : T) × called last read (Some next) left × Tells (exchanged_in value) (exchanging read next) mid new (Ok (record { 0 = replaced }))
  Settles last read left mid new (Err found) = called last read None left × (found ≡ read) × (new ≡ mid)

  pub record Updates (f : F) (old new : List (Entry D)) (outcome : Result T T) : Type 0 where
    pub last : F
    pub left : F
    pub read : T
    pub mid : List (Entry D)
    pub fetches : Fetches f old last read mid
    pub settles : Settles last read left mid new outcome

  -- a stop was answered to an exchange
  pub record IsCutOff (f : F) (old : List (Entry D)) (new : Teller D) (stop : Stop) : Type 0 where
    pub last : F
    pub left : F
    pub read : T
    pub next : T
    pub mid : List (Entry D)
    pub fetches : Fetches f old last read mid
    pub makes : called last read (Some next) left
    pub stops : Stops (exchanged_in value) (exchanging read next) mid new stop

  -- or to the load
  abbrev pub StopsUpdating : F → List (Entry D) → Teller D → Stop → Type 0
  StopsUpdating f old new stop = Stops (loaded_in value) fetching old new stop ⊎ IsCutOff f old new stop

module _ {D T F : Type 0} (called : F → Teller D → Waker → Result (Option T) Stop → F → Teller D → Type 0) where
  -- A future was made, whose polls are lent this waker, and the closure answered some times that it is pending. Behind each of these
  -- polls the thread has waited.
  pub data Polled (f : F) (old : Teller D) (future : BlockOn) (waker : Waker) : F → Teller D → Type 0 where
    unpolled : (begun : Teller D) → Tells block_on_handle beginning old.told begun.told future → begun.thread ≡ old.thread → waker.number ≡ future.number → Polled f old future waker f begun
    polled_again : (g h : F) (before asked new : Teller D) → Polled f old future waker g before → called g before waker (Ok None) h asked → Does (awaiting future) asked new → Polled f old future waker h new

  -- and in the last poll it answered this value, and the future is ready
  pub record Drives (f : F) (old new : Teller D) (value : T) : Type 0 where
    pub future : BlockOn
    pub waker : Waker
    pub last : F
    pub left : F
    pub before : Teller D
    pub ready : Teller D
    pub polled : Polled f old future waker last before
    pub answers : called last before waker (Ok (Some value)) left ready
    pub ended : Does (ending future) ready new

  -- a stop was answered to the last poll, or behind it to the wait, or to the end
  pub record IsDropped (f : F) (old new : Teller D) (stop : Stop) : Type 0 where
    pub future : BlockOn
    pub waker : Waker
    pub last : F
    pub left : F
    pub before : Teller D
    pub polled : Polled f old future waker last before
    pub stops :
        called last before waker (Err stop) left new
        ⊎ (((asked : Teller D) × called last before waker (Ok None) left asked × Stops done_in (awaiting future) asked.told new stop)
        ⊎ ((ready : Teller D) × (value : T) × called last before waker (Ok (Some value)) left ready × Stops done_in (ending future) ready.told new stop))

  -- or to what makes it
  abbrev pub StopsDriving : F → Teller D → Teller D → Stop → Type 0
  StopsDriving f old new stop = Stops block_on_handle beginning old.told new stop ⊎ IsDropped f old new stop
