-- Which runs a search that isn't reduced makes, said of each run by itself.
use Rattle.std.specs.Prelude.{◌≡◌, ◌≢◌, true, false, List, ◌∷◌, ◌++◌, Some, None, ◌↔◌}
use Rattle.loom_objects.specs.declared.choice.Choice.{Choice}
use Rattle.loom_objects.specs.Tree.Question.{Made}
use Rattle.loom_engine.specs.Walk.Machine.{Machine}
use Rattle.loom_engine.specs.Walk.Sound.{IsMachine}
use Rattle.loom_engine.specs.Walk.Runs.{Reachable}
use Rattle.loom_engine.specs.Walk.Lists.{IsAllowed}

-- where these choices pass over a default the run explores, and each option is to be tried
abbrev pub IsCalled : Machine → List Choice → Type 0
IsCalled m c = (before : List Choice) (o : Choice) (after : List Choice) (n : Made) → c ≡ before ++ o ∷ after → m.node before ≡ Some n → o ≢ n.default
    → (n.exploring ≡ true) × (m.every before ≡ true)

-- In a search that isn't reduced a run is reachable just where it passes over defaults only so.
abbrev pub CalledRunsLaw : Type 0
CalledRunsLaw = (m : Machine) → IsMachine m → m.reduce ≡ false → (x : List Choice) → Reachable m x ↔ (IsAllowed m x × (m.node x ≡ None) × IsCalled m x)
