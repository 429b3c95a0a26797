-- An operation: a request with its label.
use Rattle.std.specs.Prelude.{None}
use Rattle.loom_objects.specs.declared.operation.Request.{Request}
use Rattle.loom_objects.specs.declared.operation.Labelled.{Labelled}

-- an operation: what is asked for, and its label
abbrev pub Op : Type 0 → Type 0 → Type 0
Op D S = Labelled (Request D S)

module _ {R : Type 0} where
  -- what is asked for, without a label
  abbrev pub bare : R → Labelled R
  bare request = record { request = request; label = None }
