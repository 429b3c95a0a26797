-- Small bodies, and the outcomes of their runs.
use Rattle.std.specs.Prelude.{ℕ, true, ◌≡◌, List, [], ◌∷◌, Option, Some, None, Result, Ok, Err, slice_index_or, ⊤}
use Rattle.std.specs.declared.sync.atomic.Ordering.TheVariants.{Relaxed}
use Rattle.loom_views.specs.declared.rt.failure.FailureKind.{FailureKind}
use Rattle.loom_views.specs.declared.rt.failure.FailureKind.TheVariants.{Deadlock, Misuse, TooManyBranches, TooManySteps}
use Rattle.loom_objects.specs.declared.choice.Choice.{Choice}
use Rattle.loom_objects.specs.declared.choice.Choice.TheVariants as choice
use Rattle.loom_views.specs.declared.rt.num.Numbers.TheVariants.{U64}
use Rattle.loom_objects.specs.declared.operation.ArcOp.TheVariants as arc
use Rattle.loom_objects.specs.declared.operation.AtomicOp.TheVariants as atomic
use Rattle.loom_objects.specs.declared.operation.MutexOp.TheVariants as mutex
use Rattle.loom_objects.specs.declared.operation.Request.{Request}
use Rattle.loom_objects.specs.declared.operation.Request.TheVariants as op
use Rattle.loom_objects.specs.declared.operation.Reply.{Reply}
use Rattle.loom_objects.specs.declared.operation.Reply.TheVariants as reply
use Rattle.loom_objects.specs.declared.operation.ThreadOp.TheVariants as thread
use Rattle.loom_objects.specs.Operation.Labelled.{bare}
use Rattle.loom_engine.specs.Runs.Body.{Meaning, runs}
use Rattle.loom_engine.specs.Trees.Outcomes.{outcome}

-- one operation of a script; a spawn names the number of the script that is started
pub data Step : Type 0 where
  Makes : Step
  MakesAtomic MakesArc : Step
  -- of a counted reference
  Clones Drops Counts : ℕ → Step
  Loads : ℕ → Step
  Stores : ℕ → ℕ → Step
  Spawns : ℕ → Step
  Joins : ℕ → ℕ → Step
  Yields Parks : Step
  Unparks : ℕ → Step
  Locks Releases : ℕ → Step
  Finishes : ℕ → Step
  -- finishes with what the last step answered
  Answers : Step
  Exits Ends : Step

-- the steps that a thread is still to make
abbrev pub Script : Type 0
Script = List Step

-- the number that a reply holds
abbrev pub held : Reply ℕ → ℕ
held (reply.Value value) = value
held (reply.Data value) = value
held _ = 1000

abbrev pub op_of : List Script → Step → Reply ℕ → Request ℕ Script
op_of scripts Makes last = op.Mutex (mutex.New 0)
op_of scripts MakesAtomic last = op.Atomic (atomic.New U64 0)
op_of scripts MakesArc last = op.Arc (arc.New 0)
op_of scripts (Clones n) last = op.Arc (arc.Clone n)
op_of scripts (Drops n) last = op.Arc (arc.Drop n)
op_of scripts (Counts n) last = op.Arc (arc.StrongCount n)
op_of scripts (Loads n) last = op.Atomic (atomic.Load n Relaxed)
op_of scripts (Stores n value) last = op.Atomic (atomic.Store n value Relaxed)
op_of scripts (Spawns n) last = op.Thread (thread.Spawn (slice_index_or scripts n []) None)
op_of scripts (Joins t n) last = op.Thread (thread.Join t n)
op_of scripts Yields last = op.Thread thread.Yield
op_of scripts Parks last = op.Thread thread.Park
op_of scripts (Unparks t) last = op.Thread (thread.Unpark t)
op_of scripts (Locks n) last = op.Mutex (mutex.Lock n)
op_of scripts (Releases n) last = op.Mutex (mutex.Release n 0)
op_of scripts (Finishes value) last = op.Thread (thread.Finish value)
op_of scripts Answers last = op.Thread (thread.Finish (held last))
op_of scripts Exits last = op.Thread thread.Exit
op_of scripts Ends last = op.Thread thread.End

-- a thread makes one step after another, and fails past its last
abbrev pub follows : List Script → Meaning ℕ Script
follows scripts [] last = ([], bare op.Fail)
follows scripts (step ∷ steps) last = (steps, bare (op_of scripts step last))

-- main makes mutexes for ever
abbrev pub endless : Meaning ℕ ⊤
endless body last = (tt, bare (op.Mutex (mutex.New 0)))

-- a thread finishes with this value, and ends
abbrev pub closing : ℕ → Script
closing value = Finishes value ∷ Exits ∷ Ends ∷ []

-- main makes a mutex, spawns a child that finishes, locks and releases
abbrev pub lock_beside : Script
lock_beside = Makes ∷ Spawns 0 ∷ Locks 0 ∷ Releases 0 ∷ closing 7

-- two mutexes, and two threads that lock them in the two orders
abbrev pub lock_crosswise : Script
lock_crosswise = Makes ∷ Makes ∷ Spawns 0 ∷ Spawns 1 ∷ closing 7

-- it locks the one mutex, then the other
abbrev pub locks_both : ℕ → ℕ → Script
locks_both one other = Locks one ∷ Locks other ∷ Releases other ∷ Releases one ∷ closing 0

-- main loads from an atomic beside a child, and has the value
abbrev pub load_beside : Script
load_beside = MakesAtomic ∷ Spawns 0 ∷ Loads 0 ∷ Answers ∷ Exits ∷ Ends ∷ []

-- the child stores 1
abbrev pub stores_one : Script
stores_one = Stores 0 1 ∷ closing 0

-- main joins a child, whose notifier is object 0, and has its result
abbrev pub joins_one : Script
joins_one = Spawns 0 ∷ Joins 1 0 ∷ Answers ∷ Exits ∷ Ends ∷ []

-- main makes an atomic, joins a child, and loads
abbrev pub loads_after : Script
loads_after = MakesAtomic ∷ Spawns 0 ∷ Joins 1 1 ∷ Loads 0 ∷ Answers ∷ Exits ∷ Ends ∷ []

-- main joins one child twice
abbrev pub joins_twice : Script
joins_twice = Spawns 0 ∷ Joins 1 0 ∷ Joins 1 0 ∷ []

-- a store is chosen
abbrev pub l : ℕ → Choice
l slot = choice.Load slot

-- a thread is chosen
abbrev pub t : ℕ → Choice
t k = choice.Thread (Some k)

abbrev pub nobody : Choice
nobody = choice.Thread None

-- the outcome of the run with these choices, of at most so many nodes
abbrev pub comes_to : ℕ → List Script → Script → List Choice → Option (Result ℕ FailureKind)
comes_to room scripts main choices = outcome room (runs (follows scripts) true 5 1000 main) choices

-- Runs of these bodies.
pub record RowsLaw : Type 0 where
  -- whether main has the mutex first or the child finishes first, main has its value
  pub main_first : comes_to 1000 (closing 0 ∷ []) lock_beside (t 0 ∷ t 1 ∷ t 1 ∷ nobody ∷ []) ≡ Some (Ok 7)
  pub child_first : comes_to 1000 (closing 0 ∷ []) lock_beside (t 1 ∷ t 1 ∷ t 0 ∷ nobody ∷ []) ≡ Some (Ok 7)
  pub child_begins : comes_to 1000 (closing 0 ∷ []) lock_beside (t 1 ∷ t 0 ∷ t 1 ∷ nobody ∷ []) ≡ Some (Ok 7)
  -- no run stops there
  pub cut_short : comes_to 1000 (closing 0 ∷ []) lock_beside (t 0 ∷ t 1 ∷ t 1 ∷ []) ≡ None
  -- nobody goes on only where no thread can
  pub not_an_option : comes_to 1000 (closing 0 ∷ []) lock_beside (t 0 ∷ t 1 ∷ nobody ∷ []) ≡ None
  -- with room for three nodes it fails at the fourth
  pub few_branches : comes_to 3 (closing 0 ∷ []) lock_beside (t 0 ∷ t 1 ∷ t 1 ∷ []) ≡ Some (Err TooManyBranches)
  -- ten steps are too few for a body without end
  pub few_steps : outcome 1000 (runs endless true 5 10 tt) [] ≡ Some (Err TooManySteps)
  -- each thread holds a mutex and waits for the other's
  pub deadlock : comes_to 1000 (locks_both 0 1 ∷ locks_both 1 0 ∷ []) lock_crosswise (t 1 ∷ t 1 ∷ t 2 ∷ t 2 ∷ nobody ∷ []) ≡ Some (Err Deadlock)
  -- one thread has both before the other begins
  pub in_turn : comes_to 1000 (locks_both 0 1 ∷ locks_both 1 0 ∷ []) lock_crosswise
      (t 1 ∷ t 1 ∷ t 1 ∷ t 1 ∷ t 2 ∷ t 2 ∷ t 2 ∷ t 2 ∷ nobody ∷ []) ≡ Some (Ok 7)

-- Runs of bodies with an atomic, and with a join.
pub record SharedRowsLaw : Type 0 where
  -- main may read the first store wherever the child's isn't ordered before its load
  pub reads_first : comes_to 1000 (stores_one ∷ []) load_beside (t 0 ∷ l 0 ∷ t 1 ∷ t 1 ∷ t 1 ∷ nobody ∷ []) ≡ Some (Ok 0)
  pub reads_first_late : comes_to 1000 (stores_one ∷ []) load_beside (t 1 ∷ t 1 ∷ t 1 ∷ t 0 ∷ l 0 ∷ nobody ∷ []) ≡ Some (Ok 0)
  pub reads_second : comes_to 1000 (stores_one ∷ []) load_beside (t 1 ∷ t 1 ∷ t 1 ∷ t 0 ∷ l 1 ∷ nobody ∷ []) ≡ Some (Ok 1)
  -- there is no second store yet
  pub none_to_read : comes_to 1000 (stores_one ∷ []) load_beside (t 0 ∷ l 1 ∷ t 1 ∷ t 1 ∷ t 1 ∷ nobody ∷ []) ≡ None
  -- a join waits for the child, and answers its result
  pub joined : comes_to 1000 (closing 5 ∷ []) joins_one (t 1 ∷ t 1 ∷ t 0 ∷ nobody ∷ []) ≡ Some (Ok 5)
  pub not_yet : comes_to 1000 (closing 5 ∷ []) joins_one (t 0 ∷ []) ≡ None
  -- after it main has the child's view, and can't miss its store
  pub read_after : comes_to 1000 (stores_one ∷ []) loads_after (t 1 ∷ t 1 ∷ t 1 ∷ t 0 ∷ t 0 ∷ l 1 ∷ nobody ∷ []) ≡ Some (Ok 1)
  pub not_missed : comes_to 1000 (stores_one ∷ []) loads_after (t 1 ∷ t 1 ∷ t 1 ∷ t 0 ∷ t 0 ∷ l 0 ∷ nobody ∷ []) ≡ None
  -- a thread is joined once
  pub twice : comes_to 1000 (closing 5 ∷ []) joins_twice (t 1 ∷ t 1 ∷ t 0 ∷ []) ≡ Some (Err Misuse)
