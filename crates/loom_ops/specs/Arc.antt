-- The counted references that replies hold.
use Rattle.std.specs.Prelude.{Option, Some, None}
use Rattle.loom_objects.specs.declared.operation.Reply.{Reply}
use Rattle.loom_objects.specs.declared.operation.Reply.TheVariants.{Arc as ArcMade}
use Rattle.loom_ops.specs.declared.sync.arc.Arc.{Arc}

module _ {D : Type 0} where
  -- the counted reference that was made
  abbrev pub arc_handle : Reply D → Option Arc
  arc_handle (ArcMade number) = Some (record { number = number })
  arc_handle _ = None
