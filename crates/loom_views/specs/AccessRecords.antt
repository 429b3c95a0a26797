-- The accesses of one kind to an object, by points of the graph, and the joined views that are kept of them.
use Rattle.std.specs.Prelude.{ℕ, ◌<◌, ◌≡◌, Bool, not, List, length, map}
use Rattle.std.specs.List.{list_any, AllByRecursion}
use Rattle.loom_views.specs.Graph.{Graph, counts, inside}
use Rattle.loom_views.specs.Versions.{zeros, join_all}

-- some of the points recorded has a view that isn't inside that of point a
unfoldable pub races : Graph → List ℕ → ℕ → Bool
races g points a = list_any (λ k. not (inside g k a)) points

-- the joined views of the accesses of one kind
pub record ShowsRecord (g : Graph) (points : List ℕ) (view : List ℕ) : Type 0 where
  pub made : AllByRecursion (λ k. k < length g) points
  pub joined : view ≡ join_all zeros (map (counts g) points)
