-- Laws of views, of the vectors that show them, and of the choice of a store.
use Rattle.std.specs.Prelude.{ℕ, ◌+◌, ◌-◌, ◌≡◌, ◌≢◌, ◌<◌, ◌≤◌, ◌↔◌, ◌⊎◌, true, false, IsTrue, IfOk, List, [], ◌∷◌, length, slice_get, slice_index, slice_index_or, slice_set, Option, Some, None, Result, Ok, Err}
use Rattle.std.specs.List.{Any, filter}
use Rattle.std.specs.declared.sync.atomic.Ordering.{Ordering}
use Rattle.std.specs.declared.sync.atomic.Ordering.TheVariants.{AcqRel, SeqCst}
use Rattle.loom_views.specs.declared.rt.atomic.reader.Reader.{Reader}
use Rattle.loom_views.specs.declared.rt.failure.FailureKind.{FailureKind}
use Rattle.loom_views.specs.declared.rt.failure.FailureKind.TheVariants.{Race}
use Rattle.loom_views.specs.declared.rt.views.Views.{Views}
use Rattle.loom_views.specs.Graph.{Point, Graph, threads, is_among, past, reaches, raised, inside, IsChained, Shows}
use Rattle.loom_views.specs.Versions.{within, versions_eq}
use Rattle.loom_views.specs.ThreadViews.{ThreadPoints}
use Rattle.loom_views.specs.Atomic.History.{StorePoints, History, blank, readable}
use Rattle.loom_views.specs.CellAccesses.{Accesses}
use Rattle.loom_views.specs.Views.{Place, Meets, Keeps, Records, Points, Accessed, ShowsViews, IsSlotKept, readable_slots_of, points_after_raise, points_after_acquire, points_after_release, points_after_release_fence, points_after_acquire_fence, points_after_yield, points_with_point, points_with_stamp, points_after_stamp, points_after_stamp_release, points_after_stamp_acquire, points_with_atomic, points_after_spawn, points_after_join, points_after_load, points_after_store, points_after_update_read, points_after_update_write, points_after_update_fail, points_after_unsync_load, points_after_with_mut, points_after_with_mut_end, points_with_cell, points_after_read, points_after_write, points_after_fence}

-- a sweep from a point finds the points that reach it
abbrev pub PastLaw : Type 0
PastLaw = (g : Graph) (i k : ℕ) → reaches g i k ≡ is_among i (past g (k ∷ []))

-- the view of a raising point is inside another point's view just where it reaches that point
abbrev pub ReachingLaw : Type 0
ReachingLaw = (g : Graph) (i k t : ℕ) → IsTrue (is_among t threads) → IsTrue (is_among i (raised g t)) → inside g i k ≡ reaches g i k

-- a shown vector's count of a thread is the number of the thread's raising points in the view
abbrev pub CountLaw : Type 0
CountLaw = (g : Graph) (k t : ℕ) (vs : List ℕ) → t < 5 → Shows g k vs → slice_index vs t ≡ length (filter (λ i. reaches g i k) (raised g t))

-- vectors that show two points are compared as the views of the points are
abbrev pub ComparingLaw : Type 0
ComparingLaw = (g : Graph) (i k : ℕ) (vs ws : List ℕ) → IsChained g → Shows g i vs → Shows g k ws → within vs ws ≡ inside g i k

-- vectors of one length that are inside each other are the same
abbrev pub EqualLaw : Type 0
EqualLaw = (vs ws : List ℕ) → length vs ≡ length ws → (IsTrue (versions_eq vs ws) ↔ (vs ≡ ws))

-- what is shown of a point stays so when a point is added
abbrev pub StandingLaw : Type 0
StandingLaw = (p : Point) (g : Graph) (k : ℕ) (vs : List ℕ) → Shows g k vs → Shows (p ∷ g) k vs

-- where there is a store, a reader has a slot to choose
abbrev pub ReadableLaw : Type 0
ReadableLaw = (g : Graph) (t : ℕ) (p : ThreadPoints) (reader : Reader) (stores : List StorePoints) → 0 < length stores → readable g t p reader stores ≢ []

-- of what is kept of a run, a choice of slots offers one at least, unless it fails
abbrev pub OfferingLaw : Type 0
OfferingLaw = (p : Points) (v : Views) (t n : ℕ) (reader : Reader) → ShowsViews p v → readable_slots_of p t n reader ≢ Ok []

-- the object is an atomic, and one of its last seven stores has the value
pub record ReadsOneOfTheLast (place : Option Place) (read : ℕ) : Type 0 where
  pub history : History
  pub number : ℕ
  pub is : place ≡ Some (Keeps history)
  pub made : number < length history.stores
  pub late : length history.stores ≤ number + 7
  pub value : (slice_index_or history.stores number blank).value ≡ read

-- a load of a slot in which a store is kept answers the value of one of the last seven stores
abbrev pub LoadingLaw : Type 0
LoadingLaw = (p : Points) (t n slot : ℕ) (order : Ordering) (after : Accessed) → points_after_load p t n slot order ≡ Ok after → IsSlotKept (slice_get p.places n) slot → ReadsOneOfTheLast (slice_get p.places n) after.value

-- so does a read-modify-write that reads such a slot
abbrev pub UpdatingLaw : Type 0
UpdatingLaw = (p : Points) (t n slot : ℕ) (after : Accessed) → points_after_update_read p t n slot ≡ Ok after → IsSlotKept (slice_get p.places n) slot → ReadsOneOfTheLast (slice_get p.places n) after.value

-- thread t's present point comes after the global point as it was before, and the global point now comes after it
pub record MeetsGlobal (before after : Points) (t : ℕ) : Type 0 where
  pub own : ThreadPoints
  pub is : slice_get after.threads t ≡ Some own
  pub brought : IsTrue (reaches after.graph before.global own.present)
  pub left : IsTrue (reaches after.graph own.present after.global)

-- a sequentially consistent fence meets the global point, so what had come to one such fence comes to each later one
abbrev pub FencingLaw : Type 0
FencingLaw = (p : Points) (v : Views) (t : ℕ) → ShowsViews p v → t < length p.threads → MeetsGlobal p (points_after_fence p t SeqCst) t

-- some of these points has a view that isn't inside that of the present point
abbrev pub HasOutside : Graph → List ℕ → ℕ → Type 0
HasOutside g points present = Any (λ k. inside g k present ≡ false) points

-- a read of a cell is a race just where the view of some write isn't inside the thread's present one, and a write just where that
-- of some write or read isn't
pub record RacesOutside (p : Points) (t n present : ℕ) (cell : Accesses) : Type 0 where
  pub read : (points_after_read p t n ≡ Err Race) ↔ HasOutside p.graph cell.writes present
  pub write : (points_after_write p t n ≡ Err Race) ↔ (HasOutside p.graph cell.writes present ⊎ HasOutside p.graph cell.reads present)

-- that is so wherever there are the thread and the cell
abbrev pub RacingLaw : Type 0
RacingLaw = (p : Points) (t n : ℕ) (own : ThreadPoints) (cell : Accesses) → slice_get p.threads t ≡ Some own → slice_get p.places n ≡ Some (Records cell) → RacesOutside p t n own.present cell

-- the newest store is marked as sequentially consistent
abbrev pub newest_marked : List StorePoints → List StorePoints
newest_marked stores = let newest = slice_index_or stores (length stores - 1) blank in slice_set stores (length stores - 1) (record newest { seq_cst = true })

-- so is that of atomic n
abbrev pub marked_by : Points → ℕ → Option Place → Points
marked_by p n None = p
marked_by p n (Some (Meets k)) = p
marked_by p n (Some (Records cell)) = p
marked_by p n (Some (Keeps history)) = record p { places = slice_set p.places n (Keeps (record history { stores = newest_marked history.stores })) }

-- and that of atomic n after an access, where it succeeds
abbrev pub marked : ℕ → Result Accessed FailureKind → Result Accessed FailureKind
marked n (Ok after) = Ok (record after { points = marked_by after.points n (slice_get after.points.places n) })
marked n (Err kind) = Err kind

-- once its slot is chosen, a sequentially consistent access moves points as one by `AcqRel` does, and marks the store that it makes
pub record MovesAsAcqRel : Type 0 where
  pub load : (p : Points) (t n slot : ℕ) → points_after_load p t n slot SeqCst ≡ points_after_load p t n slot AcqRel
  pub store : (p : Points) (t n value : ℕ) → points_after_store p t n value SeqCst ≡ marked n (points_after_store p t n value AcqRel)
  pub update_write : (p : Points) (t n slot value : ℕ) → points_after_update_write p t n slot value SeqCst ≡ marked n (points_after_update_write p t n slot value AcqRel)
  pub update_fail : (p : Points) (t n slot : ℕ) → points_after_update_fail p t n slot SeqCst ≡ points_after_update_fail p t n slot AcqRel

-- the global point is where it was
abbrev pub IsGlobalKept : Points → Points → Type 0
IsGlobalKept before after = after.global ≡ before.global

-- each move of a run leaves the global point where it was, but for sequentially consistent fences
pub record GlobalStays (p : Points) : Type 0 where
  pub raise : (t : ℕ) → IfOk (points_after_raise p t) (λ after. IsGlobalKept p after)
  pub acquire : (t n : ℕ) → IsGlobalKept p (points_after_acquire p t n)
  pub release : (t n : ℕ) (order : Ordering) → IsGlobalKept p (points_after_release p t n order)
  pub release_fence : (t : ℕ) → IsGlobalKept p (points_after_release_fence p t)
  pub acquire_fence : (t : ℕ) → IsGlobalKept p (points_after_acquire_fence p t)
  pub fence : (t : ℕ) (order : Ordering) → order ≢ SeqCst → IsGlobalKept p (points_after_fence p t order)
  pub yielding : (t : ℕ) → IsGlobalKept p (points_after_yield p t)
  pub new_point : IsGlobalKept p (points_with_point p)
  pub new_stamp : IsGlobalKept p (points_with_stamp p)
  pub stamp : (n m : ℕ) → IsGlobalKept p (points_after_stamp p n m)
  pub release_to_stamp : (t m : ℕ) (order : Ordering) → IsGlobalKept p (points_after_stamp_release p t m order)
  pub acquire_from_stamp : (t m : ℕ) → IsGlobalKept p (points_after_stamp_acquire p t m)
  pub new_atomic : (t value : ℕ) → IsGlobalKept p (points_with_atomic p t value)
  pub new_cell : (t : ℕ) → IsGlobalKept p (points_with_cell p t)
  pub spawn : (t : ℕ) → IfOk (points_after_spawn p t) (λ after. IsGlobalKept p after)
  pub join : (t u : ℕ) → IsGlobalKept p (points_after_join p t u)
  pub load : (t n slot : ℕ) (order : Ordering) → IfOk (points_after_load p t n slot order) (λ after. IsGlobalKept p after.points)
  pub store : (t n value : ℕ) (order : Ordering) → IfOk (points_after_store p t n value order) (λ after. IsGlobalKept p after.points)
  pub update_read : (t n slot : ℕ) → IfOk (points_after_update_read p t n slot) (λ after. IsGlobalKept p after.points)
  pub update_write : (t n slot value : ℕ) (order : Ordering) → IfOk (points_after_update_write p t n slot value order) (λ after. IsGlobalKept p after.points)
  pub update_fail : (t n slot : ℕ) (order : Ordering) → IsGlobalKept p (points_after_update_fail p t n slot order)
  pub unsync_load : (t n : ℕ) → IfOk (points_after_unsync_load p t n) (λ after. IsGlobalKept p after.points)
  pub with_mut : (t n : ℕ) → IfOk (points_after_with_mut p t n) (λ after. IsGlobalKept p after.points)
  pub with_mut_end : (t n value : ℕ) → IfOk (points_after_with_mut_end p t n value) (λ after. IsGlobalKept p after.points)
  pub read : (t n : ℕ) → IfOk (points_after_read p t n) (λ after. IsGlobalKept p after)
  pub write : (t n : ℕ) → IfOk (points_after_write p t n) (λ after. IsGlobalKept p after)

-- no move but a sequentially consistent fence moves the global point
abbrev pub GlobalLaw : Type 0
GlobalLaw = (p : Points) → GlobalStays p
