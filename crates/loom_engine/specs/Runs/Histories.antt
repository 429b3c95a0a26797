-- The states that a run may be in between two operations, and what holds of locks in all of them.
use Rattle.std.specs.Prelude.{ℕ, ◌≡◌, ◌&&◌, Bool, true, not, is_some, List, [], ◌∷◌, ◌++◌, Option, Some, None, ⊤}
use Rattle.std.specs.List.{list_all, list_any}
use Rattle.loom_objects.specs.declared.choice.Choice.{Choice}
use Rattle.loom_objects.specs.declared.operation.CondvarOp.{CondvarOp}
use Rattle.loom_objects.specs.declared.operation.CondvarOp.TheVariants as condvar_op
use Rattle.loom_objects.specs.declared.operation.MutexOp.{MutexOp}
use Rattle.loom_objects.specs.declared.operation.MutexOp.TheVariants as mutex_op
use Rattle.loom_objects.specs.declared.operation.Request.{Request}
use Rattle.loom_objects.specs.declared.operation.Request.TheVariants as op
use Rattle.loom_objects.specs.declared.operation.Reply.{Reply}
use Rattle.loom_objects.specs.declared.operation.Reply.TheVariants.{Locked, Waited, WriteLocked}
use Rattle.loom_objects.specs.declared.operation.RwLockOp.{RwLockOp}
use Rattle.loom_objects.specs.declared.operation.RwLockOp.TheVariants as lock_op
use Rattle.loom_objects.specs.declared.operation.Turn.{Turn}
use Rattle.loom_objects.specs.declared.operation.Turn.TheVariants as turn
use Rattle.loom_objects.specs.declared.rt.object.Object.{Object}
use Rattle.loom_objects.specs.declared.rt.object.Object.TheVariants.{Mutex, RwLock}
use Rattle.loom_objects.specs.Rules.Moves.{is_number}
use Rattle.loom_objects.specs.Rules.RwLock.{is_unread}
use Rattle.loom_objects.specs.Schedule.Defaults.{or_else}
use Rattle.loom_objects.specs.Tree.Tree.{Tree, Gives, Fails, Closes, Asks}
use Rattle.loom_engine.specs.Runs.Course.{Course, opening}
use Rattle.loom_engine.specs.Runs.Machine.{submit}

-- by these choices, one at each question in turn, the tree gives this
abbrev pub ComesBy : {A : Type 0} → Tree A → List Choice → A → Type 0
ComesBy (Gives b) [] a = b ≡ a
ComesBy (Gives b) (choice ∷ choices) a = ⊥
ComesBy (Fails kind) choices a = ⊥
ComesBy (Closes rest) choices a = ComesBy rest choices a
ComesBy (Asks question branches) [] a = ⊥
ComesBy (Asks question branches) (choice ∷ choices) a = ComesBy (branches choice) choices a

-- What happens up to the next turn: the operation that the active thread hands over, the choices that are made from there on, and
-- the turn that they lead to.
pub record Event (D : Type 0) : Type 0 where
  pub op : Request D ⊤
  pub choices : List Choice
  pub turn : Turn D

-- by this event the machine comes from the one state to the other
abbrev pub Happens : {D : Type 0} → Course D → Event D → Course D → Type 0
Happens c event v = ComesBy (submit event.op c) event.choices (event.turn, v)

-- a state in which some history leaves the machine: the opening one, or one to which an event leads from such a state
pub data IsReached {D : Type 0} (max_threads max_steps : ℕ) : Course D → Type 0 where
  at_first : (explores : Bool) → IsReached max_threads max_steps (opening explores max_threads max_steps)
  later : (c : Course D) (event : Event D) (v : Course D) → IsReached max_threads max_steps c → Happens c event v → IsReached max_threads max_steps v

module _ {D : Type 0} where
  -- A mutex that a thread holds keeps no data that another could have; a read-write lock has a writer or readers, and with a
  -- writer no data.
  abbrev pub is_exclusive : Object D → Bool
  is_exclusive (Mutex mutex) = not (is_some mutex.holder && is_some mutex.content.value)
  is_exclusive (RwLock lock) = not (is_some lock.writer && not (is_unread lock)) && not (is_some lock.writer && is_some lock.content.value)
  is_exclusive _ = true

-- over every history a mutex that is held keeps no data, and a read-write lock has one writer or some readers
abbrev pub LocksLaw : Type 0 → Type 0
LocksLaw D = (max_threads max_steps : ℕ) (c : Course D) → IsReached max_threads max_steps c → list_all is_exclusive c.world.objects ≡ true

-- ---- at most one thread has the data of a mutex, or that of a read-write lock to write, said of replies

-- these events may follow the turn: after main's result, with which the run is over, there is none
abbrev pub MayFollow : {D : Type 0} → Turn D → List (Event D) → Type 0
MayFollow (turn.Reply t reply) events = Unit {0}
MayFollow (turn.Start t) events = Unit {0}
MayFollow (turn.Ended value) [] = Unit {0}
MayFollow (turn.Ended value) (event ∷ events) = ⊥

-- from this state the machine may go on by these events
abbrev pub IsHistory : {D : Type 0} → Course D → List (Event D) → Type 0
IsHistory c [] = Unit {0}
IsHistory {D} c (event ∷ events) = (v : Course D) × (Happens c event v × (MayFollow event.turn events × IsHistory v events))

module _ {D : Type 0} where
  -- the mutex whose data a lock's or a wait's reply gives out, or the read-write lock whose data it gives out for writing
  abbrev pub locked_by : Reply D → Option ℕ
  locked_by (Locked n value) = Some n
  locked_by (Waited n value timed_out) = Some n
  locked_by (WriteLocked n value) = Some n
  locked_by _ = None

  abbrev pub locked_by_turn : Turn D → Option ℕ
  locked_by_turn (turn.Reply t reply) = locked_by reply
  locked_by_turn (turn.Start t) = None
  locked_by_turn (turn.Ended value) = None

  -- the mutex whose data the operation takes out without holding it; it has no branch point, so its own reply has the data
  abbrev pub opened_by_mutex : MutexOp D → Option ℕ
  opened_by_mutex (mutex_op.GetMut n) = Some n
  opened_by_mutex (mutex_op.IntoInner n) = Some n
  opened_by_mutex (mutex_op.New value) = None
  opened_by_mutex (mutex_op.Lock n) = None
  opened_by_mutex (mutex_op.TryLock n) = None
  opened_by_mutex (mutex_op.Release n value) = None
  opened_by_mutex (mutex_op.Put n value) = None

  -- the read-write lock whose data the operation takes out without holding it; its own reply has the data
  abbrev pub opened_by_rwlock : RwLockOp D → Option ℕ
  opened_by_rwlock (lock_op.GetMut n) = Some n
  opened_by_rwlock (lock_op.IntoInner n) = Some n
  opened_by_rwlock (lock_op.New value) = None
  opened_by_rwlock (lock_op.Read n) = None
  opened_by_rwlock (lock_op.TryRead n) = None
  opened_by_rwlock (lock_op.ReadRelease n) = None
  opened_by_rwlock (lock_op.Write n) = None
  opened_by_rwlock (lock_op.TryWrite n) = None
  opened_by_rwlock (lock_op.WriteRelease n value) = None
  opened_by_rwlock (lock_op.Put n value) = None

  abbrev pub opened_by : Request D ⊤ → Option ℕ
  opened_by (op.Mutex todo) = opened_by_mutex todo
  opened_by (op.RwLock todo) = opened_by_rwlock todo
  opened_by _ = None

  -- the mutex whose data a thread is given by this event, or the read-write lock whose data it is given to write
  abbrev pub given_out : Event D → Option ℕ
  given_out event = or_else (locked_by_turn event.turn) (opened_by event.op)

  -- the mutex whose data the operation gives back
  abbrev pub returned_by_mutex : MutexOp D → Option ℕ
  returned_by_mutex (mutex_op.Release n value) = Some n
  returned_by_mutex (mutex_op.Put n value) = Some n
  returned_by_mutex (mutex_op.New value) = None
  returned_by_mutex (mutex_op.Lock n) = None
  returned_by_mutex (mutex_op.TryLock n) = None
  returned_by_mutex (mutex_op.GetMut n) = None
  returned_by_mutex (mutex_op.IntoInner n) = None

  abbrev pub returned_by_condvar : CondvarOp D → Option ℕ
  returned_by_condvar (condvar_op.Wait n m value) = Some m
  returned_by_condvar (condvar_op.WaitTimeout n m value) = Some m
  returned_by_condvar condvar_op.New = None
  returned_by_condvar (condvar_op.NotifyOne n) = None
  returned_by_condvar (condvar_op.NotifyAll n) = None

  -- the read-write lock whose data the operation gives back
  abbrev pub returned_by_rwlock : RwLockOp D → Option ℕ
  returned_by_rwlock (lock_op.WriteRelease n value) = Some n
  returned_by_rwlock (lock_op.Put n value) = Some n
  returned_by_rwlock (lock_op.New value) = None
  returned_by_rwlock (lock_op.Read n) = None
  returned_by_rwlock (lock_op.TryRead n) = None
  returned_by_rwlock (lock_op.ReadRelease n) = None
  returned_by_rwlock (lock_op.Write n) = None
  returned_by_rwlock (lock_op.TryWrite n) = None
  returned_by_rwlock (lock_op.GetMut n) = None
  returned_by_rwlock (lock_op.IntoInner n) = None

  abbrev pub returned_by : Request D ⊤ → Option ℕ
  returned_by (op.Mutex todo) = returned_by_mutex todo
  returned_by (op.RwLock todo) = returned_by_rwlock todo
  returned_by (op.Condvar todo) = returned_by_condvar todo
  returned_by _ = None

  -- the event begins with an operation that gives the data of this mutex or read-write lock back
  abbrev pub gives_back : ℕ → Event D → Bool
  gives_back n event = is_number (returned_by event.op) n

-- Over every history: where two events give the data of one mutex out, or that of one read-write lock to write, an event after the
-- first gives it back, the second at the latest, since another thread may have its turn by the very operation that gives it back.
abbrev pub OneHolderLaw : Type 0 → Type 0
OneHolderLaw D = (explores : Bool) (max_threads max_steps n : ℕ) (before between after : List (Event D)) (first second : Event D)
    → IsHistory (opening explores max_threads max_steps) (before ++ first ∷ (between ++ second ∷ after))
    → given_out first ≡ Some n → given_out second ≡ Some n
    → list_any (gives_back n) (between ++ second ∷ []) ≡ true
