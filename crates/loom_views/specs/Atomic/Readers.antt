-- How a reader of an atomic passes stores by.
use Rattle.std.specs.Prelude.{Option, Some, None}
use Rattle.std.specs.declared.sync.atomic.Ordering.{Ordering}
use Rattle.loom_views.specs.declared.rt.atomic.reader.Reader.{Reader}
use Rattle.loom_views.specs.declared.rt.atomic.reader.Reader.TheVariants.{Load, Update}

-- the ordering of a load. A read-modify-write has none, since it may read no store that is below another
abbrev pub load_order : Reader → Option Ordering
load_order (Load order) = Some order
load_order Update = None
