-- A bound on preemptions.
use Rattle.std.specs.Prelude.{ℕ, suc, ◌<◌, ◌≤◌, ◌≡◌, ◌≢◌, true, false, List, [], ◌∷◌, ◌++◌, length, Some}
use Rattle.loom_objects.specs.declared.choice.Choice.{Choice}
use Rattle.loom_objects.specs.Tree.Question.{Made}
use Rattle.loom_engine.specs.Walk.Machine.{Machine, is_thread}
use Rattle.loom_engine.specs.Walk.Sound.{IsMachine}
use Rattle.loom_engine.specs.Walk.Runs.{Reachable}

-- count c is the number of preemptions that a schedule counts after the choices c, which is to stay within the bound.
pub record IsCount (m : Machine) (count : List Choice → ℕ) (bound : ℕ) : Type 0 where
  pub start : count [] ≡ 0
  -- a default is no preemption, and neither is a load's slot or a spurious wake-up; another thread may be one
  pub by_default : (c : List Choice) (n : Made) → m.node c ≡ Some n → count (c ++ n.default ∷ []) ≤ count c
  pub by_value : (c : List Choice) (n : Made) (o : Choice) → m.node c ≡ Some n → is_thread n.default ≡ false → count (c ++ o ∷ []) ≤ count c
  pub by_thread : (c : List Choice) (n : Made) (o : Choice) → m.node c ≡ Some n → count (c ++ o ∷ []) ≤ suc (count c)
  -- each thread is to be tried only at a schedule below the bound, and marks are made only at one that is not at the bound
  pub below : (c : List Choice) (n : Made) → m.node c ≡ Some n → is_thread n.default ≡ true → m.every c ≡ true → count c < bound
  pub marked : (before : List Choice) (chosen : Choice) (after : List Choice) (o : Choice) → m.marks (before ++ chosen ∷ after) (length before) o ≡ true → count before ≢ bound

-- No run that is reachable counts more preemptions than the bound at any of its nodes.
abbrev pub BoundLaw : Type 0
BoundLaw = (m : Machine) (count : List Choice → ℕ) (bound : ℕ) → IsMachine m → IsCount m count bound
    → (x : List Choice) → Reachable m x → (before rest : List Choice) → x ≡ before ++ rest → count before ≤ bound
