-- What holds of each machine.
use Rattle.std.specs.Prelude.{◌≤◌, ◌≡◌, true, false, List, ◌∷◌, ◌++◌, length, Some, None}
use Rattle.loom_objects.specs.declared.choice.Choice.{Choice}
use Rattle.loom_objects.specs.Tree.Question.{Made, Among}
use Rattle.loom_engine.specs.Walk.Machine.{Machine, is_thread}

-- what holds of the nodes and marks of each machine
pub record IsMachine (m : Machine) : Type 0 where
  -- no run meets more nodes than the limit
  pub ends : (c : List Choice) → m.limit ≤ length c → m.node c ≡ None
  pub default : (c : List Choice) (n : Made) → m.node c ≡ Some n → Among n.default n.options
  -- there are at most five threads, and seven slots
  pub few : (c : List Choice) (n : Made) → m.node c ≡ Some n → length n.options ≤ 7
  -- a schedule of which each option is to be tried explores, in a search that isn't reduced
  pub full : (c : List Choice) (n : Made) → m.node c ≡ Some n → m.every c ≡ true → is_thread n.default ≡ true → (m.reduce ≡ false) × (n.exploring ≡ true)
  -- each option of a load or a spurious wake-up is to be tried
  pub values : (c : List Choice) (n : Made) → m.node c ≡ Some n → is_thread n.default ≡ false → m.every c ≡ true
  -- marks are made only where the run explores
  pub marked : (before : List Choice) (c : Choice) (after : List Choice) (n : Made) (o : Choice) → m.node before ≡ Some n
      → m.marks (before ++ c ∷ after) (length before) o ≡ true → n.exploring ≡ true
