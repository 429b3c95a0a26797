-- Where view containment is reaching: at the points that raise a version, in each graph of a run.
use Rattle.std.specs.Prelude.{ℕ, ◌≡◌, ◌≤◌, ◌↔◌, ◌⊎◌, Bool, false, if◌then◌else◌, IsTrue, IfOk, List, [], ◌∷◌, ◌++◌, length, slice_get, Option, Some, None, Ok, Err}
use Rattle.std.specs.List.{Any, list_any}
use Rattle.std.specs.declared.sync.atomic.Ordering.{Ordering}
use Rattle.loom_views.specs.declared.rt.failure.FailureKind.TheVariants.{Race}
use Rattle.loom_views.specs.Graph.{Graph, threads, is_among, reaches, raised, inside}
use Rattle.loom_views.specs.ThreadViews.{ThreadPoints}
use Rattle.loom_views.specs.CellAccesses.{Accesses}
use Rattle.loom_views.specs.Views.{Place, Meets, Keeps, Records, Points, points_after_raise, points_after_load, points_after_store, points_after_update_read, points_after_update_write, points_after_read, points_after_write}

-- the later graph is the earlier one with further points in front
pub record Extends (earlier later : Graph) : Type 0 where
  pub added : Graph
  pub is : later ≡ added ++ earlier

-- the point raises the version of some thread
abbrev pub is_raising : Graph → ℕ → Bool
is_raising g k = list_any (λ t. is_among k (raised g t)) threads

-- the point raises, and its view is inside another point's just where it reaches that point
pub record IsKnownByReaching (g : Graph) (k : ℕ) : Type 0 where
  pub raises : IsTrue (is_raising g k)
  pub reaching : (a : ℕ) → inside g k a ≡ reaches g k a

-- a point that raises is so in its graph and in each later one
abbrev pub StayingLaw : Type 0
StayingLaw = (earlier later : Graph) (k : ℕ) → Extends earlier later → IsTrue (is_raising earlier k) → IsKnownByReaching later k

-- the points that are recorded of an object's reads, where it is a cell
abbrev pub reads_of : Option Place → List ℕ
reads_of None = []
reads_of (Some (Meets k)) = []
reads_of (Some (Keeps history)) = []
reads_of (Some (Records cell)) = cell.reads

-- those of its writes
abbrev pub writes_of : Option Place → List ℕ
writes_of None = []
writes_of (Some (Meets k)) = []
writes_of (Some (Keeps history)) = []
writes_of (Some (Records cell)) = cell.writes

-- those of an object's loads, where it is an atomic
abbrev pub loads_of : Option Place → List ℕ
loads_of None = []
loads_of (Some (Meets k)) = []
loads_of (Some (Keeps history)) = history.loads
loads_of (Some (Records cell)) = []

-- those of its stores
abbrev pub stored_of : Option Place → List ℕ
stored_of None = []
stored_of (Some (Meets k)) = []
stored_of (Some (Keeps history)) = history.stored
stored_of (Some (Records cell)) = []

-- point k is recorded last of object n, and it raises. The list is that of one kind of accesses
pub record RecordsRaising (of : Option Place → List ℕ) (n k : ℕ) (before after : Points) : Type 0 where
  pub recorded : of (slice_get after.places n) ≡ of (slice_get before.places n) ++ k ∷ []
  pub raises : IsTrue (is_raising after.graph k)

-- what thread t records of object n, once it has raised at point k
pub record BeginsRaising (p : Points) (t n k : ℕ) : Type 0 where
  pub read : IfOk (points_after_read p t n) (λ after. RecordsRaising reads_of n k p after)
  pub write : IfOk (points_after_write p t n) (λ after. RecordsRaising writes_of n k p after)
  pub load : (slot : ℕ) (order : Ordering) → IfOk (points_after_load p t n slot order) (λ after. RecordsRaising loads_of n k p after.points)
  pub store : (value : ℕ) (order : Ordering) → IfOk (points_after_store p t n value order) (λ after. RecordsRaising stored_of n k p after.points)
  pub update_read : (slot : ℕ) → IfOk (points_after_update_read p t n slot) (λ after. RecordsRaising loads_of n k p after.points)
  pub update_write : (slot value : ℕ) (order : Ordering) → IfOk (points_after_update_read p t n slot) (λ read. IfOk (points_after_update_write read.points t n slot value order) (λ after. RecordsRaising stored_of n k read.points after.points))

-- the point that a raise makes is what is recorded of the access that it begins, of a cell or of an atomic. There are five
-- threads at most
abbrev pub BeginningLaw : Type 0
BeginningLaw = (p raised : Points) (t n : ℕ) → length p.threads ≤ 5 → points_after_raise p t ≡ Ok raised → BeginsRaising raised t n (length p.graph)

-- a recorded point has come to another: it reaches that one if it raises, and else its view is inside that one's
abbrev pub has_come : Graph → ℕ → ℕ → Bool
has_come g k a = if is_raising g k then reaches g k a else inside g k a

-- some of these points hasn't
abbrev pub HasMissing : Graph → List ℕ → ℕ → Type 0
HasMissing g points present = Any (λ k. has_come g k present ≡ false) points

-- a read of a cell is a race just where some write hasn't come to the thread's present point, and a write just where some write
-- or read hasn't
pub record RacesUnreached (p : Points) (t n present : ℕ) (cell : Accesses) : Type 0 where
  pub read : (points_after_read p t n ≡ Err Race) ↔ HasMissing p.graph cell.writes present
  pub write : (points_after_write p t n ≡ Err Race) ↔ (HasMissing p.graph cell.writes present ⊎ HasMissing p.graph cell.reads present)

-- that is so wherever there are the thread and the cell
abbrev pub UnreachedLaw : Type 0
UnreachedLaw = (p : Points) (t n : ℕ) (own : ThreadPoints) (cell : Accesses) → slice_get p.threads t ≡ Some own → slice_get p.places n ≡ Some (Records cell) → RacesUnreached p t n own.present cell
