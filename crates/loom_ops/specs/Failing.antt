-- An assertion that fails at a reply that a body doesn't know.
use Rattle.std.specs.Prelude.{Some, None, codes}
use Rattle.loom_objects.specs.Operation.Labelled.{Op}
use Rattle.loom_objects.specs.declared.operation.Request.TheVariants.{Fail}
use Rattle.loom_objects.specs.Text.{first_text}

-- its label says so
abbrev pub unexpected : {D S : Type 0} → Op D S
unexpected = record { request = Fail; label = Some (record { name = Some (first_text (codes "unexpected reply")); location = None }) }
