-- What holds of views over every history: what moves the points of a run, and where containment is reaching.
use Rattle.std.specs.Prelude.{ℕ, ◌≡◌, ◌≢◌, ◌||◌, ◌==◌, cond, IsTrue, List, [], ◌∷◌, ◌++◌, Option, slice_get}
use Rattle.std.specs.declared.sync.atomic.Ordering.TheVariants.{SeqCst}
use Rattle.loom_views.specs.Graph.{is_among}
use Rattle.loom_views.specs.Laws.Moves.{Leads}
use Rattle.loom_views.specs.Laws.Reaching.{IsKnownByReaching, loads_of, reads_of, stored_of, writes_of}
use Rattle.loom_views.specs.Views.{Place, opening as first_points}
use Rattle.loom_objects.specs.declared.operation.CellOp.{CellOp}
use Rattle.loom_objects.specs.declared.operation.CellOp.TheVariants as cell_op
use Rattle.loom_objects.specs.declared.operation.Request.TheVariants as op
use Rattle.loom_engine.specs.Runs.Course.{Course}
use Rattle.loom_engine.specs.Runs.Histories.{Event, Happens, IsReached}

-- Over every history: moves lead to the points of a state from those of the opening, and by each event from those before it to
-- those after it. So what holds of moves holds of runs.
pub record LedByMoves {D : Type 0} (c v : Course D) : Type 0 where
  pub before : Leads first_points c.world.points
  pub on : Leads c.world.points v.world.points

abbrev pub MovesLaw : Type 0 → Type 0
MovesLaw D = (max_threads max_steps : ℕ) (c v : Course D) (event : Event D) → IsReached max_threads max_steps c → Happens c event v → LedByMoves c v

-- Over every history: an event leaves the global point where it was, unless its operation is a sequentially consistent fence.
abbrev pub GlobalPointLaw : Type 0 → Type 0
GlobalPointLaw D = (max_threads max_steps : ℕ) (c v : Course D) (event : Event D) → IsReached max_threads max_steps c → Happens c event v
    → event.op ≢ op.Fence SeqCst → v.world.points.global ≡ c.world.points.global

-- ---- where view containment is reaching

-- From the one state the machine may get to the other by some events, or it is that state.
pub data GoesTo {D : Type 0} (c : Course D) : Course D → Type 0 where
  at_once : GoesTo c c
  on : (u : Course D) (event : Event D) (v : Course D) → GoesTo c u → Happens u event v → GoesTo c v

-- in this state and in each later one: the view of point k is inside another point's just where it reaches that point
abbrev pub IsKnownFrom : {D : Type 0} → Course D → ℕ → Type 0
IsKnownFrom {D} c k = (u : Course D) → GoesTo c u → IsKnownByReaching u.world.points.graph k

-- Over every history: so it is of each point that is recorded of a load, a store or a read-modify-write of an atomic.
abbrev pub AtomicReachingLaw : Type 0 → Type 0
AtomicReachingLaw D = (max_threads max_steps n k : ℕ) (c : Course D) → IsReached max_threads max_steps c
    → IsTrue (is_among k (loads_of (slice_get c.world.points.places n)) || is_among k (stored_of (slice_get c.world.points.places n))) → IsKnownFrom c k

module _ {D : Type 0} where
  -- the cells that the operation begins to read
  abbrev pub reads_begun : CellOp D → List ℕ
  reads_begun (cell_op.Read n) = n ∷ []
  reads_begun (cell_op.Get n) = n ∷ []
  reads_begun (cell_op.New value) = []
  reads_begun (cell_op.ReadEnd n) = []
  reads_begun (cell_op.Deref n) = []
  reads_begun (cell_op.Write n) = []
  reads_begun (cell_op.WriteEnd n value) = []
  reads_begun (cell_op.IntoInner n) = []
  reads_begun (cell_op.Replace n new) = []
  reads_begun (cell_op.Swap n m) = []

  -- the cells that it begins to write; a swap of a cell with itself accesses nothing
  abbrev pub writes_begun : CellOp D → List ℕ
  writes_begun (cell_op.Write n) = n ∷ []
  writes_begun (cell_op.Replace n new) = n ∷ []
  writes_begun (cell_op.Swap n m) = cond (n == m) [] (n ∷ m ∷ [])
  writes_begun (cell_op.New value) = []
  writes_begun (cell_op.Read n) = []
  writes_begun (cell_op.ReadEnd n) = []
  writes_begun (cell_op.Deref n) = []
  writes_begun (cell_op.WriteEnd n value) = []
  writes_begun (cell_op.IntoInner n) = []
  writes_begun (cell_op.Get n) = []

-- The first point that is recorded of object n anew is known by reaching from then on. The list is that of one kind of accesses.
pub record BeginsKnown {D : Type 0} (of : Option Place → List ℕ) (n : ℕ) (c v : Course D) : Type 0 where
  pub point : ℕ
  pub more : List ℕ
  pub recorded : of (slice_get v.world.points.places n) ≡ of (slice_get c.world.points.places n) ++ point ∷ more
  pub known : IsKnownFrom v point

-- what a cell's operation begins is recorded by such points
pub record BeginsAccesses {D : Type 0} (todo : CellOp D) (c v : Course D) : Type 0 where
  pub reads : (n : ℕ) → IsTrue (is_among n (reads_begun todo)) → BeginsKnown reads_of n c v
  pub writes : (n : ℕ) → IsTrue (is_among n (writes_begun todo)) → BeginsKnown writes_of n c v

-- Over every history: so it is of the point that is recorded where an access of a cell begins.
abbrev pub CellReachingLaw : Type 0 → Type 0
CellReachingLaw D = (max_threads max_steps : ℕ) (todo : CellOp D) (c v : Course D) (event : Event D) → IsReached max_threads max_steps c
    → Happens c event v → event.op ≡ op.Cell todo → BeginsAccesses todo c v
