-- What the vectors of accesses tell of their order.
use Rattle.std.specs.Prelude.{ℕ, ◌≡◌, ◌<◌, List, length, slice_get, slice_index, slice_index_or, Option, Some, None}
use Rattle.std.specs.List.{AllByRecursion, filter}
use Rattle.loom_views.specs.Graph.{Graph, reaches, raised, Shows}
use Rattle.loom_views.specs.Versions.{within}
use Rattle.loom_objects.specs.declared.rt.dependence.Dependence.{Dependence}
use Rattle.loom_objects.specs.declared.rt.dependence.Use.{Use}
use Rattle.loom_objects.specs.declared.rt.access.LastAccess.{LastAccess}
use Rattle.loom_objects.specs.Dependence.Order.{Order, Access, accesses_to, last_before, comes_before}
use Rattle.loom_objects.specs.Dependence.Shown.{ShowsOrder, nothing, slot_of}

-- the vector of an access, which shows its point, is inside this vector of a point just where the access comes before the point
abbrev pub TellsOrder : Graph → ℕ → List ℕ → Access → Type 0
TellsOrder g own view access = (other : List ℕ) → Shows g access.point other → within other view ≡ reaches g access.point own

-- of an access that is kept, if one is, the place is its own, and the vector tells whether it comes before the point
abbrev pub TellsKept : Graph → ℕ → List ℕ → Option Access → Option LastAccess → Type 0
TellsKept g own view None None = Unit {0}
TellsKept g own view None (Some kept) = ⊥
TellsKept g own view (Some access) None = ⊥
TellsKept g own view (Some access) (Some kept) = (kept.place ≡ access.place) × (within kept.view view ≡ comes_before g access.point own)

-- of a thread: its vector counts the raising points of each thread that reach its point, and tells of each access that was made,
-- and of the one that is kept for each use, whether it comes before that point
pub record TellsThread (order : Order) (d : Dependence) (own : ℕ) (view : List ℕ) : Type 0 where
  pub counted : (u : ℕ) → u < 5 → slice_index view u ≡ length (filter (λ i. reaches order.graph i own) (raised order.graph u))
  pub made : (n : ℕ) → AllByRecursion (TellsOrder order.graph own view) (accesses_to order n)
  pub kept : (used : Use) → TellsKept order.graph own view (last_before order used) (slot_of used.action (slice_index_or d.last used.object nothing))

-- that is so of each thread wherever an order is shown
abbrev pub VectorLaw : Type 0
VectorLaw = (order : Order) (d : Dependence) (t own : ℕ) (view : List ℕ) → ShowsOrder order d → slice_get order.threads t ≡ Some own → slice_get d.threads t ≡ Some view → TellsThread order d own view
