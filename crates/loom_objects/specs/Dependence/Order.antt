-- Which accesses to objects depend on each other, and in which order they come: a graph of its own, beside that of views.
use Rattle.std.specs.Prelude.{ℕ, zero, suc, Bool, cond, List, [], ◌∷◌, ◌++◌, length, nat_lt, slice_get, slice_index_or, slice_set, Option, Some, None, Result, Ok, Err}
use Rattle.loom_views.specs.declared.rt.failure.FailureKind.{FailureKind}
use Rattle.loom_views.specs.declared.rt.failure.FailureKind.TheVariants.{Misuse, TooManyVersions}
use Rattle.loom_views.specs.Graph.{Graph, is_among, past, raised, moved, moved_raising}
use Rattle.loom_views.specs.Limits.{highest_version}
use Rattle.loom_objects.specs.declared.rt.dependence.Action.{Action}
use Rattle.loom_objects.specs.declared.rt.dependence.Use.{Use}
pub use Rattle.loom_objects.specs.Dependence.Depends.{depends_on}

-- an access that was made: what it did, its point, and the place of the schedule that chose its thread among the run's nodes
pub record Access : Type 0 where
  pub action : Action
  pub point : ℕ
  pub place : ℕ

-- the graph, the latest point of each thread, and the accesses to each object, the latest first
pub record Order : Type 0 where
  pub graph : Graph
  pub threads : List ℕ
  pub accesses : List (List Access)

-- main has one point, and there are no objects
abbrev pub opening : Order
opening = record { graph = moved [] []; threads = 0 ∷ []; accesses = [] }

abbrev pub copies : {A : Type 0} → ℕ → A → List A
copies zero a = []
copies (suc n) a = a ∷ copies n a

abbrev pub children : ℕ → Option ℕ → List ℕ
children n None = []
children n (Some point) = copies n point

-- so many threads more, which begin at the point of the thread that makes them, and so many objects more, without accesses
abbrev pub grown : ℕ → ℕ → ℕ → Order → Order
grown parent threads objects order = record order {
  threads = order.threads ++ children threads (slice_get order.threads parent);
  accesses = order.accesses ++ copies objects [];
}

-- the last of these accesses that such an access depends on
abbrev pub last_dependent : Action → List Access → Option Access
last_dependent action [] = None
last_dependent action (access ∷ earlier) = cond (depends_on action access.action) (Some access) (last_dependent action earlier)

-- the accesses to this object, and the last of them that this use depends on
abbrev pub accesses_to : Order → ℕ → List Access
accesses_to order n = slice_index_or order.accesses n []

abbrev pub last_before : Order → Use → Option Access
last_before order used = last_dependent used.action (accesses_to order used.object)

-- a chain of edges leads from point i to point k, found by one sweep from the newest point down
unfoldable pub comes_before : Graph → ℕ → ℕ → Bool
comes_before g i k = is_among i (past g (k ∷ []))

-- where the access was made that isn't ordered before the thread's point
abbrev pub unordered_place : Graph → Option ℕ → Option Access → Option ℕ
unordered_place g None access = None
unordered_place g (Some own) None = None
unordered_place g (Some own) (Some access) = cond (comes_before g access.point own) None (Some access.place)

-- where the last access was made that thread t's use depends on, if it isn't ordered before the thread's point
abbrev pub unordered_by : Order → ℕ → Option Use → Option ℕ
unordered_by order t None = None
unordered_by order t (Some used) = unordered_place order.graph (slice_get order.threads t) (last_before order used)

-- where those accesses were made, for each thread from the one of this number on, by what each is about to do
abbrev pub unordered_from : Order → ℕ → List (Option Use) → List (Option ℕ)
unordered_from order t [] = []
unordered_from order t (used ∷ uses) = unordered_by order t used ∷ unordered_from order (suc t) uses

abbrev pub unordered : Order → List (Option Use) → List (Option ℕ)
unordered order uses = unordered_from order 0 uses

-- the graph, and the thread's point in it, when the thread comes after the access
abbrev pub after_access : Graph → ℕ → Option Access → Graph × ℕ
after_access g own None = (g, own)
after_access g own (Some access) = (moved g (own ∷ access.point ∷ []), length g)

-- thread t raises its count, at most 65,534 times, and its point is the access at this place
abbrev pub after_raise : ℕ → Use → ℕ → Order → Graph × ℕ → Result Order FailureKind
after_raise t used place order (g, own) = cond (nat_lt (length (raised g t)) highest_version) (Ok (record {
  graph = moved_raising g (own ∷ []) t;
  threads = slice_set order.threads t (length g);
  accesses = slice_set order.accesses used.object (record { action = used.action; point = length g; place = place } ∷ accesses_to order used.object);
})) (Err TooManyVersions)

-- thread t is chosen at this place, and uses an object: it comes after the last access that this depends on, and raises
abbrev pub used_by : ℕ → Use → ℕ → Order → Option ℕ → Result Order FailureKind
used_by t used place order None = Err Misuse
used_by t used place order (Some own) = after_raise t used place order (after_access order.graph own (last_before order used))

abbrev pub after_use : ℕ → Use → ℕ → Order → Result Order FailureKind
after_use t used place order = used_by t used place order (slice_get order.threads t)
