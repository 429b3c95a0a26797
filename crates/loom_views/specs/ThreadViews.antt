-- A thread's points, and the moves between a thread and a point.
use Rattle.std.specs.Prelude.{ℕ, suc, ◌<◌, ◌≡◌, if◌then◌else◌, [], ◌∷◌, length, Option, Some, None}
use Rattle.std.specs.declared.sync.atomic.Ordering.{Ordering}
use Rattle.loom_views.specs.Graph.{Graph, moved, moved_raising, version, Shows}
use Rattle.loom_views.specs.Orderings.{is_acquire, is_release}
use Rattle.loom_views.specs.declared.rt.synchronize.ThreadViews.{ThreadViews}

-- the present point, the released point, and the present point at the last yield
pub record ThreadPoints : Type 0 where
  pub present : ℕ
  pub released : ℕ
  pub yielded : Option ℕ

-- thread t raises its version
abbrev pub graph_after_raise : Graph → ThreadPoints → ℕ → Graph
graph_after_raise g p t = moved_raising g (p.present ∷ []) t

-- the thread's present point is a new one
abbrev pub with_present : Graph → ThreadPoints → ThreadPoints
with_present g p = record p { present = length g }

-- acquire: the thread's present point comes after the object's point, or another thread's
abbrev pub graph_after_acquire : Graph → ThreadPoints → ℕ → Graph
graph_after_acquire g p k = moved g (p.present ∷ k ∷ [])

-- release: the object's point comes after the thread's present point
abbrev pub graph_after_release : Graph → ThreadPoints → ℕ → Graph
graph_after_release g p k = moved g (k ∷ p.present ∷ [])

-- a release fence: the released point comes after the present one
abbrev pub graph_after_release_fence : Graph → ThreadPoints → Graph
graph_after_release_fence g p = moved g (p.released ∷ p.present ∷ [])

-- spawn: the child's released point, then its present point after the parent's, which raises the child, then the parent raises
abbrev pub graph_with_child : Graph → ThreadPoints → ℕ → Graph
graph_with_child g p child = moved_raising (moved g []) (p.present ∷ []) child

-- the graph once thread t has spawned the child
abbrev pub graph_after_spawn : Graph → ThreadPoints → ℕ → ℕ → Graph
graph_after_spawn g p t child = graph_after_raise (graph_with_child g p child) p t

-- the child's points
abbrev pub child_points : Graph → ThreadPoints
child_points g = record { present = suc (length g); released = length g; yielded = None }

-- the parent's points
abbrev pub parent_points : Graph → ThreadPoints → ThreadPoints
parent_points g p = record p { present = suc (suc (length g)) }

-- a load from an object whose point is k acquires by some orderings
abbrev pub graph_after_load : Graph → ThreadPoints → ℕ → Ordering → Graph
graph_after_load g p k order = if is_acquire order then graph_after_acquire g p k else g

-- the thread's points after such a load
abbrev pub thread_after_load : Graph → ThreadPoints → Ordering → ThreadPoints
thread_after_load g p order = if is_acquire order then with_present g p else p

-- a store to an object makes its point come after the released point, and by some orderings after the present point
abbrev pub graph_after_store : Graph → ThreadPoints → ℕ → Ordering → Graph
graph_after_store g p k order = moved g (k ∷ p.released ∷ (if is_release order then p.present ∷ [] else []))

-- a version that is kept is the thread's own in the view of a point, where the point is
abbrev pub ShowsTouch : Graph → ℕ → Option ℕ → Option ℕ → Type 0
ShowsTouch g t None None = Unit {0}
ShowsTouch g t None (Some n) = ⊥
ShowsTouch g t (Some k) None = ⊥
ShowsTouch g t (Some k) (Some n) = (k < length g) × (n ≡ version g k t)

-- the views of thread t are those of its points
pub record ShowsThread (g : Graph) (t : ℕ) (p : ThreadPoints) (views : ThreadViews) : Type 0 where
  pub present : Shows g p.present views.present
  pub released : Shows g p.released views.released
  pub yielded : ShowsTouch g t p.yielded views.last_yield
