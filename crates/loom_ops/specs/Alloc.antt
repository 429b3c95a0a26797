-- The tracked values that replies hold.
use Rattle.std.specs.Prelude.{Option, Some, None}
use Rattle.loom_objects.specs.declared.operation.Reply.{Reply}
use Rattle.loom_objects.specs.declared.operation.Reply.TheVariants.{Track as TrackMade}
use Rattle.loom_ops.specs.declared.alloc.Track.{Track}

module _ {D : Type 0} where
  -- the tracked value that was made
  abbrev pub track_handle : Reply D → Option Track
  track_handle (TrackMade number) = Some (record { number = number })
  track_handle _ = None
