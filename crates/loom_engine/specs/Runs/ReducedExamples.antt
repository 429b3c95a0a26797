-- Small bodies, and the runs that a reduced search makes of them.
use Rattle.std.specs.Prelude.{ℕ, zero, suc, ◌≡◌, true, List, [], ◌∷◌, Option, Some, None, length, take}
use Rattle.loom_objects.specs.declared.choice.Choice.{Choice}
use Rattle.loom_objects.specs.Tree.Tree.{Tree}
use Rattle.loom_engine.specs.Walk.Path.{Stored, choices, step}
use Rattle.loom_engine.specs.Trees.Drive.{at_start, drive}
use Rattle.loom_engine.specs.Trees.Marks.{marking}
use Rattle.loom_engine.specs.Trees.Meeting.{Settings, whole_search}
use Rattle.loom_engine.specs.Runs.Examples.{Script, Makes, MakesArc, MakesAtomic, Clones, Counts, Drops, Loads, Stores, Spawns, Joins, Yields, Parks, Unparks, Locks, Releases, closing, follows, lock_beside, l, load_beside, nobody, t}
use Rattle.loom_engine.specs.Runs.Body.{runs}

-- the run with these nodes, and what comes after it
abbrev pub round : (List Stored → List (List Choice)) → List Stored → List (List Choice)
round again nodes = choices nodes ∷ elim (step nodes) [ None ↦ [] | Some later ↦ again later ]

-- so many rounds from a path on, or those up to the last
abbrev pub rounds : Settings → Tree ℕ → ℕ → List Stored → List (List Choice)
rounds s tree zero nodes = []
rounds s tree (suc more) nodes = round (rounds s tree more) (drive s (marking s.bound) tree (at_start nodes)).1.nodes

-- the runs of the body that a search makes, or the first forty
abbrev pub searched : Settings → List Script → Script → List (List Choice)
searched s scripts main = rounds s (runs (follows scripts) true 5 1000 main) 40 []

-- a reduced search, with a bound on preemptions or none
abbrev pub reduced : Option ℕ → Settings
reduced bound = record { reduce = true; bound = bound; max_branches = 1000 }

-- two threads that store in one atomic
abbrev pub store_beside : Script
store_beside = MakesAtomic ∷ Spawns 0 ∷ Stores 0 1 ∷ closing 7

abbrev pub stores_two : Script
stores_two = Stores 0 2 ∷ closing 0

-- main stores, and then spawns a child that stores, beside one that does nothing
abbrev pub store_before : Script
store_before = MakesAtomic ∷ Spawns 0 ∷ Stores 0 1 ∷ Spawns 1 ∷ closing 7

-- main yields to a child that parks, and locks before it unparks the child
abbrev pub lock_before_unpark : Script
lock_before_unpark = Makes ∷ Spawns 0 ∷ Yields ∷ Spawns 1 ∷ Locks 0 ∷ Releases 0 ∷ Unparks 1 ∷ closing 7

abbrev pub parks_and_locks : Script
parks_and_locks = Parks ∷ Locks 0 ∷ Releases 0 ∷ closing 0

-- main stores when it has joined a child that stores, whose notifier is object 1
abbrev pub store_after : Script
store_after = MakesAtomic ∷ Spawns 0 ∷ Spawns 1 ∷ Joins 1 1 ∷ Stores 0 1 ∷ closing 7

-- two threads that load
abbrev pub loads_one : Script
loads_one = Loads 0 ∷ closing 0

-- main loads one atomic, and stores in another, in which its child stores
abbrev pub load_and_store : Script
load_and_store = MakesAtomic ∷ MakesAtomic ∷ Spawns 0 ∷ Loads 1 ∷ Stores 0 1 ∷ closing 7

-- main stores beside two children that store
abbrev pub three_stores : Script
three_stores = MakesAtomic ∷ Spawns 0 ∷ Spawns 0 ∷ Stores 0 1 ∷ closing 7

-- a child yields before it stores, beside one that yields
abbrev pub yields_and_stores : Script
yields_and_stores = Yields ∷ Stores 0 2 ∷ closing 0

abbrev pub yields_alone : Script
yields_alone = Yields ∷ closing 0

abbrev pub store_beside_yields : Script
store_beside_yields = MakesAtomic ∷ Spawns 0 ∷ Spawns 1 ∷ Stores 0 1 ∷ closing 7

-- main and its child drop their references, two each
abbrev pub drops_beside : Script
drops_beside = MakesArc ∷ Clones 0 ∷ Clones 0 ∷ Spawns 0 ∷ Drops 0 ∷ Drops 0 ∷ closing 7

abbrev pub clones_and_drops : Script
clones_and_drops = Clones 0 ∷ Drops 0 ∷ Drops 0 ∷ closing 0

-- main asks how many there are before it drops its one
abbrev pub counts_beside : Script
counts_beside = MakesArc ∷ Clones 0 ∷ Spawns 0 ∷ Counts 0 ∷ Drops 0 ∷ closing 7

-- The runs of these bodies, each list in the order in which the search makes it.
pub record ReducedRowsLaw : Type 0 where
  -- the child uses nothing: one run in place of three
  pub nothing_shared : searched (reduced None) (closing 0 ∷ []) lock_beside ≡ (t 0 ∷ t 1 ∷ t 1 ∷ nobody ∷ []) ∷ []
  pub nothing_shared_whole : searched (whole_search 1000) (closing 0 ∷ []) lock_beside
      ≡ (t 0 ∷ t 1 ∷ t 1 ∷ nobody ∷ []) ∷ (t 1 ∷ t 1 ∷ t 0 ∷ nobody ∷ []) ∷ (t 1 ∷ t 0 ∷ t 1 ∷ nobody ∷ []) ∷ []
  -- two stores come in the two orders
  pub stores : searched (reduced None) (stores_two ∷ []) store_beside
      ≡ (t 0 ∷ t 1 ∷ t 1 ∷ t 1 ∷ nobody ∷ []) ∷ (t 1 ∷ t 1 ∷ t 1 ∷ t 0 ∷ nobody ∷ []) ∷ (t 1 ∷ t 0 ∷ t 1 ∷ t 1 ∷ nobody ∷ []) ∷ []
  pub stores_at_0 : searched (reduced (Some 0)) (stores_two ∷ []) store_beside ≡ (t 0 ∷ t 1 ∷ t 1 ∷ t 1 ∷ nobody ∷ []) ∷ []
  pub stores_at_1 : searched (reduced (Some 1)) (stores_two ∷ []) store_beside
      ≡ (t 0 ∷ t 1 ∷ t 1 ∷ t 1 ∷ nobody ∷ []) ∷ (t 1 ∷ t 1 ∷ t 1 ∷ t 0 ∷ nobody ∷ []) ∷ []
  -- two loads don't depend on each other
  pub loads : searched (reduced None) (loads_one ∷ []) load_beside ≡ (t 0 ∷ l 0 ∷ t 1 ∷ t 1 ∷ l 0 ∷ t 1 ∷ nobody ∷ []) ∷ []
  -- a child comes after what its parent did before
  pub parent_first : searched (reduced None) (closing 0 ∷ stores_two ∷ []) store_before ≡ (t 0 ∷ t 1 ∷ t 1 ∷ t 2 ∷ t 2 ∷ t 2 ∷ nobody ∷ []) ∷ []
  -- where main locks the child is parked: each thread that can go on there is tried
  pub parked : searched (reduced None) (parks_and_locks ∷ closing 0 ∷ []) lock_before_unpark
      ≡ (t 1 ∷ t 0 ∷ t 0 ∷ t 1 ∷ t 1 ∷ t 1 ∷ t 2 ∷ t 2 ∷ nobody ∷ []) ∷ (t 1 ∷ t 0 ∷ t 2 ∷ t 2 ∷ t 0 ∷ t 1 ∷ t 1 ∷ t 1 ∷ nobody ∷ []) ∷ []
  -- where main stores the child has yielded: no other is tried for it
  pub yielded : searched (reduced None) (yields_and_stores ∷ yields_alone ∷ []) store_beside_yields
      ≡ (t 0 ∷ t 1 ∷ t 2 ∷ t 1 ∷ t 1 ∷ t 1 ∷ t 2 ∷ t 2 ∷ nobody ∷ []) ∷ (t 1 ∷ t 0 ∷ t 2 ∷ t 1 ∷ t 1 ∷ t 1 ∷ t 2 ∷ t 2 ∷ nobody ∷ []) ∷ []
  -- a load's choice is a node of its own, so the store is made one place later
  pub places : searched (reduced None) (stores_two ∷ []) load_and_store
      ≡ (t 0 ∷ l 0 ∷ t 0 ∷ t 1 ∷ t 1 ∷ t 1 ∷ nobody ∷ []) ∷ (t 0 ∷ l 0 ∷ t 1 ∷ t 1 ∷ t 1 ∷ t 0 ∷ nobody ∷ []) ∷ (t 0 ∷ l 0 ∷ t 1 ∷ t 0 ∷ t 1 ∷ t 1 ∷ nobody ∷ []) ∷ []
  pub places_at_1 : searched (reduced (Some 1)) (stores_two ∷ []) load_and_store
      ≡ (t 0 ∷ l 0 ∷ t 0 ∷ t 1 ∷ t 1 ∷ t 1 ∷ nobody ∷ []) ∷ (t 0 ∷ l 0 ∷ t 1 ∷ t 1 ∷ t 1 ∷ t 0 ∷ nobody ∷ []) ∷ (t 1 ∷ t 1 ∷ t 1 ∷ t 0 ∷ l 0 ∷ t 0 ∷ nobody ∷ []) ∷ []
  pub places_at_2 : length (searched (reduced (Some 2)) (stores_two ∷ []) load_and_store) ≡ 5
  -- references: a drop depends on drops alone, and a clone on questions how many there are
  pub drops : take 4 (searched (reduced None) (clones_and_drops ∷ []) drops_beside)
      ≡ (t 0 ∷ t 0 ∷ t 0 ∷ t 0 ∷ t 1 ∷ t 1 ∷ t 1 ∷ t 1 ∷ t 1 ∷ nobody ∷ []) ∷ (t 0 ∷ t 0 ∷ t 0 ∷ t 1 ∷ t 1 ∷ t 1 ∷ t 1 ∷ t 1 ∷ t 0 ∷ nobody ∷ [])
      ∷ (t 0 ∷ t 0 ∷ t 0 ∷ t 1 ∷ t 1 ∷ t 1 ∷ t 0 ∷ t 1 ∷ t 1 ∷ nobody ∷ []) ∷ (t 0 ∷ t 0 ∷ t 0 ∷ t 1 ∷ t 1 ∷ t 0 ∷ t 1 ∷ t 1 ∷ t 1 ∷ nobody ∷ []) ∷ []
  pub all_drops : length (searched (reduced None) (clones_and_drops ∷ []) drops_beside) ≡ 10
  pub counts : length (searched (reduced None) (clones_and_drops ∷ []) counts_beside) ≡ 14
  -- three stores
  pub three : length (searched (reduced None) (stores_two ∷ []) three_stores) ≡ 26
  pub three_at_1 : searched (reduced (Some 1)) (stores_two ∷ []) three_stores
      ≡ (t 0 ∷ t 1 ∷ t 1 ∷ t 1 ∷ t 2 ∷ t 2 ∷ t 2 ∷ nobody ∷ []) ∷ (t 0 ∷ t 1 ∷ t 2 ∷ t 2 ∷ t 2 ∷ t 1 ∷ t 1 ∷ nobody ∷ [])
      ∷ (t 0 ∷ t 2 ∷ t 2 ∷ t 2 ∷ t 1 ∷ t 1 ∷ t 1 ∷ nobody ∷ []) ∷ (t 0 ∷ t 2 ∷ t 1 ∷ t 1 ∷ t 1 ∷ t 2 ∷ t 2 ∷ nobody ∷ [])
      ∷ (t 1 ∷ t 1 ∷ t 1 ∷ t 0 ∷ t 2 ∷ t 2 ∷ t 2 ∷ nobody ∷ []) ∷ (t 2 ∷ t 2 ∷ t 2 ∷ t 0 ∷ t 1 ∷ t 1 ∷ t 1 ∷ nobody ∷ []) ∷ []
  pub three_at_2 : length (searched (reduced (Some 2)) (stores_two ∷ []) three_stores) ≡ 16
  -- main comes after the child's store by the join
  pub joined : searched (reduced None) (stores_two ∷ closing 0 ∷ []) store_after
      ≡ (t 1 ∷ t 1 ∷ t 1 ∷ t 0 ∷ t 0 ∷ t 2 ∷ t 2 ∷ nobody ∷ []) ∷ (t 1 ∷ t 1 ∷ t 2 ∷ t 2 ∷ t 1 ∷ t 0 ∷ t 0 ∷ nobody ∷ []) ∷ []
  -- with a bound a reduced search may make more runs than without, since a thread is tried at a second place too
  pub joined_at_1 : searched (reduced (Some 1)) (stores_two ∷ closing 0 ∷ []) store_after
      ≡ (t 1 ∷ t 1 ∷ t 1 ∷ t 0 ∷ t 0 ∷ t 2 ∷ t 2 ∷ nobody ∷ []) ∷ (t 1 ∷ t 1 ∷ t 2 ∷ t 2 ∷ t 1 ∷ t 0 ∷ t 0 ∷ nobody ∷ [])
      ∷ (t 2 ∷ t 2 ∷ t 1 ∷ t 1 ∷ t 1 ∷ t 0 ∷ t 0 ∷ nobody ∷ []) ∷ []
