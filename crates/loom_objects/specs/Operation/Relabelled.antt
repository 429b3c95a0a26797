-- The label of an operation: how its body's author calls it.
use Rattle.loom_objects.specs.declared.operation.Labelled.{Labelled}
use Rattle.loom_objects.specs.declared.location.Location.{Location}
use Rattle.loom_objects.specs.Label as labels
use Rattle.loom_objects.specs.declared.text.Text.{Text}

module _ {R : Type 0} where
  -- the operation at this place
  abbrev pub placed : Location → Labelled R → Labelled R
  placed location op = record op { label = labels.placed location op.label }

  -- the operation, with this name for what it makes
  abbrev pub named : Text → Labelled R → Labelled R
  named name op = record op { label = labels.named name op.label }
