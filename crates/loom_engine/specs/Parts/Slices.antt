-- Slices: some runs of a part in a row, after which it is looked once what they noted.
use Rattle.std.specs.Prelude.{ℕ, ◌≡◌, List, [], ◌∷◌, ◌++◌, take, length, Some, None}
use Rattle.loom_objects.specs.declared.choice.Choice.{Choice}
use Rattle.loom_engine.specs.Walk.Machine.{Machine}
use Rattle.loom_engine.specs.Walk.Sound.{IsMachine}
use Rattle.loom_engine.specs.Walk.Path.{Stored, after_run}
use Rattle.loom_engine.specs.Walk.Walks.{run_of}
use Rattle.loom_engine.specs.Parts.Cuts.{Part}
use Rattle.loom_engine.specs.Parts.Floors.{step_above}
use Rattle.loom_engine.specs.Parts.Works.{Gathers, Work}

-- some runs of the path p with this floor, the newest first, and the path that they lead to
pub data Slice (m : Machine) (k : ℕ) (p : List Stored) : List (List Choice) → List Stored → Type 0 where
  first : (q : List Stored) → step_above k (after_run m p) ≡ Some q → Slice m k p (run_of m p ∷ []) q
  further : (runs : List (List Choice)) (q next : List Stored) → Slice m k p runs q → step_above k (after_run m q) ≡ Some next → Slice m k p (run_of m q ∷ runs) next

-- all of its runs, and of the path as the last one left it the nodes below the floor
pub data Ended (m : Machine) (k : ℕ) (p : List Stored) : List (List Choice) → List Stored → Type 0 where
  at_once : step_above k (after_run m p) ≡ None → Ended m k p (run_of m p ∷ []) (take k (after_run m p))
  after : (runs : List (List Choice)) (q : List Stored) → Slice m k p runs q → step_above k (after_run m q) ≡ None → Ended m k p (run_of m q ∷ runs) (take k (after_run m q))

-- A slice needs to know nothing but the part's path and its floor, and what it noted can be read off the path that it left.
abbrev pub SliceLaw : Type 0
SliceLaw = (m : Machine) (made runs : List (List Choice)) (b : List Choice) (p q : List Stored) (parts spent : List Part) (issued notes more : List (List Choice)) → IsMachine m
    → Work m made (record { base = b; path = p } ∷ parts) spent issued notes → Gathers b q issued notes more
    → (Slice m (length b) p runs q → Work m (runs ++ made) (record { base = b; path = q } ∷ parts) spent issued more)
    × (Ended m (length b) p runs q → Work m (runs ++ made) parts (record { base = b; path = q } ∷ spent) issued more)
