-- Steps as they are read: those of a script, where the name of a place is its text.
use Rattle.std.specs.Prelude.{ℕ, List}
use Rattle.std.specs.declared.sync.atomic.Ordering.{Ordering}
use Rattle.loom_objects.specs.declared.label.Label.{Label as Called}
use Rattle.loom_objects.specs.declared.operation.Request.{Request}
use Rattle.loom_examples.specs.declared.scripts.step.Step.{Step}
use Rattle.loom_examples.specs.declared.scripts.step.Step.TheVariants as step
use Rattle.loom_examples.specs.declared.scripts.step.Value.{Value}

pub data Written : Type 0 where
  Do : ℕ → Request Value ℕ → Written
  Labelled : ℕ → Request Value ℕ → Called → Written
  Store : ℕ → Value → Ordering → Written
  Label : List ℕ → Written
  JumpTo : List ℕ → Written
  IfTo : ℕ → ℕ → List ℕ → Written
  UnlessTo : ℕ → ℕ → List ℕ → Written
  SpawnAt : ℕ → List ℕ → Written

abbrev pub written : Step → Written
written (step.Do keep made) = Do keep made
written (step.Labelled keep made called) = Labelled keep made called
written (step.Store slot value order) = Store slot value order
written (step.Label label) = Label label.now
written (step.JumpTo name) = JumpTo name.now
written (step.IfTo register n name) = IfTo register n name.now
written (step.UnlessTo register n name) = UnlessTo register n name.now
written (step.SpawnAt slot name) = SpawnAt slot name.now
