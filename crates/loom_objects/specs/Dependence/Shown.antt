-- What is kept of accesses shows the order: vectors count the points that raise.
use Rattle.std.specs.Prelude.{ℕ, ◌≡◌, Bool, true, false, IsTrue, List, [], length, slice_get, slice_index, slice_index_or, Option, Some, None, Result, Ok, Err}
use Rattle.std.specs.List.{AllByRecursion}
use Rattle.loom_views.specs.declared.rt.failure.FailureKind.{FailureKind}
use Rattle.loom_views.specs.Graph.{Graph, raised, Shows, IsChained, IsPresent}
use Rattle.loom_views.specs.Versions.{join}
use Rattle.loom_views.specs.Laws.Reaching.{is_raising}
use Rattle.loom_objects.specs.declared.rt.dependence.Action.{Action}
use Rattle.loom_objects.specs.declared.rt.dependence.Action.TheVariants.{Read, Change, Increment, Decrement, Inspect, Send, Receive, Other}
use Rattle.loom_objects.specs.declared.rt.dependence.Dependence.{Dependence}
use Rattle.loom_objects.specs.declared.rt.access.LastAccess.{LastAccess}
use Rattle.loom_objects.specs.declared.rt.access.LastAccesses.{LastAccesses}
use Rattle.loom_objects.specs.Dependence.Order.{Order, Access, copies, last_dependent, accesses_to}

-- nothing is kept of an object that no access was made to
abbrev pub nothing : LastAccesses
nothing = record { latest = None; change = None; inspection = None; decrement = None; recount = None; send = None; receipt = None }

-- what is kept of the last access that such a one depends on
abbrev pub slot_of : Action → LastAccesses → Option LastAccess
slot_of Read kept = kept.change
slot_of Change kept = kept.latest
slot_of Increment kept = kept.inspection
slot_of Decrement kept = kept.decrement
slot_of Inspect kept = kept.recount
slot_of Send kept = kept.send
slot_of Receive kept = kept.receipt
slot_of Other kept = kept.latest

-- a vector, joined with what is kept of an access
abbrev pub joined_last : List ℕ → Option LastAccess → List ℕ
joined_last view None = view
joined_last view (Some kept) = join view kept.view

-- so many copies of a value, where there is one
abbrev pub copies_of : {A : Type 0} → ℕ → Option A → List A
copies_of n None = []
copies_of n (Some a) = copies n a

-- a thread's vector shows its point, which every point that raises the thread reaches; one that isn't there has raised nothing
abbrev pub ShowsThreadAt : Graph → ℕ → Option ℕ → Option (List ℕ) → Type 0
ShowsThreadAt g t None None = raised g t ≡ []
ShowsThreadAt g t None (Some view) = ⊥
ShowsThreadAt g t (Some own) None = ⊥
ShowsThreadAt g t (Some own) (Some view) = IsPresent g t own × Shows g own view

-- an access's vector shows its point, and its place is that of the access
abbrev pub ShowsLast : Graph → Option Access → Option LastAccess → Type 0
ShowsLast g None None = Unit {0}
ShowsLast g None (Some kept) = ⊥
ShowsLast g (Some access) None = ⊥
ShowsLast g (Some access) (Some kept) = Shows g access.point kept.view × (kept.place ≡ access.place)

-- the point of each access raises, so that vectors tell which points it reaches
abbrev pub AreRaising : Graph → List Access → Type 0
AreRaising g accesses = AllByRecursion (λ access. IsTrue (is_raising g access.point)) accesses

-- of an object: for each access that may come, what is kept shows the last one that it depends on
pub record ShowsObject (g : Graph) (accesses : List Access) (kept : LastAccesses) : Type 0 where
  pub raising : AreRaising g accesses
  pub last : (asked : Action) → ShowsLast g (last_dependent asked accesses) (slot_of asked kept)

-- what is kept of a run's accesses shows their order, in a graph that accesses made
pub record ShowsOrder (order : Order) (d : Dependence) : Type 0 where
  pub chained : IsChained order.graph
  pub count : length order.threads ≡ length d.threads
  pub threads : (t : ℕ) → ShowsThreadAt order.graph t (slice_get order.threads t) (slice_get d.threads t)
  pub made : length order.accesses ≡ length d.last
  pub objects : (n : ℕ) → ShowsObject order.graph (accesses_to order n) (slice_index_or d.last n nothing)

-- a thread's vector counts how often it has raised; one that isn't there has raised nothing
abbrev pub CountsThreadAt : Graph → ℕ → Option ℕ → Option (List ℕ) → Type 0
CountsThreadAt g t None None = raised g t ≡ []
CountsThreadAt g t None (Some view) = ⊥
CountsThreadAt g t (Some own) None = ⊥
CountsThreadAt g t (Some own) (Some view) = (length view ≡ 5) × (slice_index view t ≡ length (raised g t))

-- what is kept of a run's accesses tells how often each thread has made one, and no order
pub record CountsOrder (order : Order) (d : Dependence) : Type 0 where
  pub count : length order.threads ≡ length d.threads
  pub threads : (t : ℕ) → CountsThreadAt order.graph t (slice_get order.threads t) (slice_get d.threads t)

-- the order is kept where it will be asked for, and else the counts alone
abbrev pub Keeps : Bool → Order → Dependence → Type 0
Keeps true order d = ShowsOrder order d
Keeps false order d = CountsOrder order d

-- an access answers as its rule does, and what is kept shows the order that it leads to, or counts
abbrev pub KeepsAs : Bool → Result Order FailureKind → Result (Unit {0}) FailureKind → Dependence → Type 0
KeepsAs is_ordered (Ok order) result d = (result ≡ Ok tt) × Keeps is_ordered order d
KeepsAs is_ordered (Err kind) result d = result ≡ Err kind
