-- Small histories of one atomic, and what may be read in them.
use Rattle.std.specs.Prelude.{ℕ, ◌+◌, ◌≡◌, false, [], ◌∷◌, length, None, Result, Ok, Err}
use Rattle.std.specs.declared.sync.atomic.Ordering.TheVariants.{Relaxed}
use Rattle.loom_views.specs.declared.rt.failure.FailureKind.{FailureKind}
use Rattle.loom_views.specs.declared.rt.atomic.reader.Reader.TheVariants.{Load, Update}
use Rattle.loom_views.specs.Graph.{Graph, moved, moved_raising}
use Rattle.loom_views.specs.ThreadViews.{ThreadPoints}
use Rattle.loom_views.specs.Atomic.History.{Scene, Answer, readable, fails_by_orders, scene_raised, new_step, store_step, load_step}

-- main's present and released points, without edges
unfoldable pub start : Graph
start = moved (moved [] []) []

-- main's present and released points
unfoldable pub main : ThreadPoints
main = record { present = 0; released = 1; yielded = None }

-- the scene that a step leads to, and its value
unfoldable pub after : Result Answer FailureKind → Scene
after (Ok answer) = answer.scene
after (Err kind) = record { graph = []; thread = main; history = record { stores = []; loads = []; stored = []; unsync_loads = []; mutations = []; mutating = false } }

-- the value that a step answers, and 1000 for a failure
unfoldable pub value_of : Result Answer FailureKind → ℕ
value_of (Ok answer) = answer.value
value_of (Err kind) = 1000

-- main makes an atomic with 0
unfoldable pub made : Scene
made = new_step 0 start main 0

-- main raises and stores a value
unfoldable pub stored : ℕ → Scene → Scene
stored value s = after (store_step 0 (scene_raised 0 s) value Relaxed)

-- main has stored 1 and 2, and is about to load
unfoldable pub two : Scene
two = scene_raised 0 (stored 2 (stored 1 made))

-- main has stored 1 to 7, and is about to load
unfoldable pub seven : Scene
seven = scene_raised 0 (stored 7 (stored 6 (stored 5 (stored 4 (stored 3 (stored 2 (stored 1 made)))))))

-- a child is spawned: its points, and then main's
unfoldable pub child : Scene → Scene
child s = record s { graph = moved_raising (moved_raising (moved (moved s.graph []) []) (length s.graph ∷ s.thread.present ∷ []) 1) (s.thread.present ∷ []) 0; thread = record { present = length s.graph + 2; released = length s.graph + 1; yielded = None } }

-- main's points once it has spawned
unfoldable pub parent : Scene → ThreadPoints
parent s = record s.thread { present = length s.graph + 3 }

-- main has made an atomic with 0 and spawned a child, which stores 1, and main is about to load
unfoldable pub beside : Scene
beside = let stored = after (store_step 1 (scene_raised 1 (child made)) 1 Relaxed) in scene_raised 0 (record stored { thread = parent made })

-- what may be read in these
pub record IsExampleOf (s t u : Scene) : Type 0 where
  pub newest_of_two : readable s.graph 0 s.thread (Load Relaxed) s.history.stores ≡ 2 ∷ []
  pub newest_of_seven : readable t.graph 0 t.thread (Load Relaxed) t.history.stores ≡ 0 ∷ []
  pub value_of_seven : value_of (load_step 0 t 0 Relaxed) ≡ 7
  pub either_store : readable u.graph 0 u.thread (Load Relaxed) u.history.stores ≡ 0 ∷ 1 ∷ []
  pub no_equal_orders : fails_by_orders u.graph 0 u.thread (Load Relaxed) u.history.stores ≡ false
  pub update_reads_newest : readable u.graph 0 u.thread Update u.history.stores ≡ 1 ∷ []

-- the three histories are as said
abbrev pub ExampleLaw : Type 0
ExampleLaw = IsExampleOf two seven beside
