-- Rounds of a check with a table of the states that were noted.
use Rattle.std.specs.Prelude.{ℕ, ◌≡◌, Bool, true, false, List, [], ◌∷◌, ◌++◌, Option, Some, None, Result, Ok, ◌⊎◌}
use Rattle.std.specs.List.{Contains}
use Rattle.loom_objects.specs.declared.choice.Choice.{Choice}
use Rattle.loom_objects.specs.Tree.Tree.{Tree}
use Rattle.loom_views.specs.declared.rt.failure.FailureKind.{FailureKind}
use Rattle.loom_engine.specs.Walk.Path.{Stored, choices, node_at, step}
use Rattle.loom_engine.specs.Trees.Meeting.{Marking, whole_search}
use Rattle.loom_engine.specs.Trees.Drive.{Trail, drive, at_start}
use Rattle.loom_engine.specs.Covering.Cut.{Checks, cut, with_run}

-- a node of the path has this state
abbrev pub HasState : {K : Type 0} → (List Choice → K) → List Stored → K → Type 0
HasState key p s = (b : List Choice) × (n : Stored) × (node_at p b ≡ Some n) × (key b ≡ s)

module _ {A K : Type 0} (room : ℕ) (adds : Marking) (tree : Tree A) (key : List Choice → K) where
  -- One run along the path p, with a table that has some states before it and some after it: past the path's nodes it is cut off where
  -- the table has the state, or a node of the run. What the table has more then are states of the run's nodes, unless it failed.
  pub record IsAlong (old : List K) (p : List Stored) (came : Result (Option A) FailureKind) (path : Trail) (new : List K) : Type 0 where
    pub stop : List Choice → Bool
    pub past : (b : List Choice) (n : Stored) → node_at p b ≡ Some n → stop b ≡ false
    pub stops : (c : List Choice) → stop c ≡ true → Contains old (key c) ⊎ HasState key path.nodes (key c)
    pub notes : (ended : Option A) → came ≡ Ok ended → (s : K) → Contains new s → Contains old s ⊎ HasState key path.nodes s
    pub comes : drive (whole_search room) adds (cut stop [] tree) (at_start p) ≡ (came, path)

  -- rounds from a path without nodes and an empty table: the table then, the paths that the runs left, those that the visitor
  -- was given, and the path that comes next
  pub data Notes : List K → List (List Stored) → List (List Choice × A) → List Stored → Type 0 where
    notes_none : Notes [] [] [] []
    notes_more : (old new : List K) (left : List (List Stored)) (runs : List (List Choice × A)) (p later : List Stored) (came : Option A) (path : Trail) → Notes old left runs p
        → IsAlong old p (Ok came) path new → step path.nodes ≡ Some later → Notes new (left ++ path.nodes ∷ []) (runs ++ with_run (choices path.nodes) came []) later

-- Such rounds up to one after which no step is left are a check whose runs are cut off only at states of its own nodes. A table that
-- notes fewer states than it might does no harm.
abbrev pub TableLaw : Type 0 → Type 0 → Type 0
TableLaw A K = (room : ℕ) (adds : Marking) (tree : Tree A) (key : List Choice → K) (old new : List K) (left : List (List Stored)) (runs : List (List Choice × A)) (p : List Stored) (came : Option A) (path : Trail)
    → Notes room adds tree key old left runs p → IsAlong room adds tree key old p (Ok came) path new → step path.nodes ≡ None
    → Checks room adds tree key (left ++ path.nodes ∷ []) [] (left ++ path.nodes ∷ []) (runs ++ with_run (choices path.nodes) came [])
