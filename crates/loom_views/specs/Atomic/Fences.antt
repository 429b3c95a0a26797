-- Acquire fences: what a thread gains from the stores that it has seen.
use Rattle.std.specs.Prelude.{◌-◌, if◌then◌else◌, List, [], ◌∷◌, length, drop}
use Rattle.loom_views.specs.Graph.{Graph}
use Rattle.loom_views.specs.ThreadViews.{ThreadPoints, with_present, graph_after_acquire}
use Rattle.loom_views.specs.Atomic.History.{StorePoints, Scene, is_seen}

-- the graph, and a thread's points in it
pub record Standing : Type 0 where
  pub graph : Graph
  pub thread : ThreadPoints

-- the thread acquires from the point of a store, where its present point sees the store
abbrev pub after_store : Standing → StorePoints → Standing
after_store s store = if is_seen s.graph store s.thread.present then record { graph = graph_after_acquire s.graph s.thread store.sync; thread = with_present s.graph s.thread } else s

-- so from each of these stores in turn, as its present point then is
abbrev pub after_stores : Standing → List StorePoints → Standing
after_stores s [] = s
after_stores s (store ∷ stores) = after_stores (after_store s store) stores

-- the stores of an atomic that are kept, which are the last seven, the oldest first
abbrev pub kept_stores : List StorePoints → List StorePoints
kept_stores stores = drop (length stores - 7) stores

-- the graph of a scene, and the points of its thread
abbrev pub standing_in : Scene → Standing
standing_in s = record { graph = s.graph; thread = s.thread }

-- the scene with another graph, and with other points of its thread
abbrev pub scene_at : Scene → Standing → Scene
scene_at s new = record s { graph = new.graph; thread = new.thread }

-- an acquire fence, as far as one atomic goes
abbrev pub acquire_fence_step : Scene → Scene
acquire_fence_step s = scene_at s (after_stores (standing_in s) (kept_stores s.history.stores))
