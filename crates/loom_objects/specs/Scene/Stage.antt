-- A scene as contracts see it, the state of the machine that it shows, and when an effect on it does what a rule says.
use Rattle.std.specs.Prelude.{ℕ, ◌≡◌, true, List, slice_get, Option, Some, None, Result, Ok, Err, ⊤}
use Rattle.std.specs.List.{Contains}
use Rattle.loom_views.specs.Views.{Points, ShowsViews, IsSlotKept}
use Rattle.loom_views.specs.declared.rt.failure.FailureKind.{FailureKind}
use Rattle.loom_views.specs.declared.rt.views.Views.{Views}
use Rattle.loom_objects.specs.declared.operation.AtomicOp.{AtomicOp}
use Rattle.loom_objects.specs.declared.operation.Lazy.{Lazy}
use Rattle.loom_objects.specs.declared.rt.object.Object.{Object}
use Rattle.loom_objects.specs.declared.rt.run.Resumed.{Resumed}
use Rattle.loom_objects.specs.declared.rt.run.Resumed.TheVariants.{Passed, Load}
use Rattle.loom_objects.specs.declared.rt.thread.Thread.{Thread}
use Rattle.loom_objects.specs.Operation.Accessed.{accessed}
use Rattle.loom_objects.specs.World.{World}

-- the threads, main first, and the objects, both in order of creation; what is kept of views; the thread whose turn it is; how often each
-- of five threads has yielded; how many threads there may be
pub record Stage (D : Type 0) : Type 0 where
  pub threads : List (Thread D)
  pub objects : List (Object D)
  pub views : Views
  pub lazies : List (Lazy D)
  pub active : ℕ
  pub yields : List ℕ
  pub max_threads : ℕ

module _ {D : Type 0} where
  -- the machine's state with these points, while so many operations are left, and with all else as the scene has it
  abbrev pub world_of : Points → ℕ → Stage D → World D
  world_of points left s = record { threads = s.threads; objects = s.objects; points = points; lazies = s.lazies; active = s.active; yields = s.yields; steps_left = left; max_threads = s.max_threads }

  -- the points of the state that a rule leads to; where it fails, they don't matter
  abbrev pub points_of : {A : Type 0} → Points → Result (A × World D) FailureKind → Points
  points_of p (Ok x) = x.1.points
  points_of p (Err kind) = p

  -- the code answers what the rule does, and then shows the state that the rule leads to
  abbrev pub Comes : {A : Type 0} → Points → ℕ → Result (A × World D) FailureKind → Result A FailureKind → Stage D → Type 0
  Comes p left answer (Ok a) new = (answer ≡ Ok (a, world_of (points_of p answer) left new)) × ShowsViews (points_of p answer) new.views
  Comes p left answer (Err kind) new = answer ≡ Err kind

  -- what the code answers, and the scene after it, is what the rule says of each state that the scene showed before
  abbrev pub Does : {A : Type 0} → (World D → Result (A × World D) FailureKind) → Stage D → Result A FailureKind → Stage D → Type 0
  Does rule old result new = (p : Points) → (left : ℕ) → ShowsViews p old.views → Comes p left (rule (world_of p left old)) result new

  -- code that fails only where memory is refused does as the rule says, where it answers
  abbrev pub DoesIfOk : {A E : Type 0} → (World D → Result (A × World D) FailureKind) → Stage D → Result A E → Stage D → Type 0
  DoesIfOk rule old (Ok a) new = Does rule old (Ok a) new
  DoesIfOk rule old (Err e) new = ⊤

-- the atomic of this number keeps a store in the slot
abbrev pub KeepsAt : Points → Option ℕ → ℕ → Type 0
KeepsAt p None slot = Unit {0}
KeepsAt p (Some n) slot = IsSlotKept (slice_get p.places n) slot

module _ {D : Type 0} where
  -- an access does as the rule says, where a store is kept in its slot
  abbrev pub DoesAt : {A : Type 0} → AtomicOp → ℕ → (World D → Result (A × World D) FailureKind) → Stage D → Result A FailureKind → Stage D → Type 0
  DoesAt access slot rule old result new =
      (p : Points) → (left : ℕ) → ShowsViews p old.views → KeepsAt p (accessed access) slot → Comes p left (rule (world_of p left old)) result new

  -- an access has a slot to read
  abbrev pub HasSlot : Resumed D → Type 0
  HasSlot (Passed passed) = Unit {0}
  HasSlot (Load load) = Contains load.readable true

  -- each slot that it may read keeps a store
  abbrev pub KeepsSlots : Points → Resumed D → Type 0
  KeepsSlots p (Passed passed) = Unit {0}
  KeepsSlots p (Load load) = (slot : ℕ) → slice_get load.readable slot ≡ Some true → KeepsAt p (accessed load.access) slot
