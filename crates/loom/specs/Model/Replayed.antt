-- That a run by given choices doesn't fail because orders are equal.
use Rattle.std.specs.Prelude.{◌≢◌}
use Rattle.loom_views.specs.declared.rt.failure.FailureKind.TheVariants.{OrdersEqual}
use Rattle.loom.specs.declared.model.Replay.{Replay}
use Rattle.loom.specs.declared.model.Replay.TheVariants.{Ended, Failed}

-- the run didn't fail because the orders of two stores are equal
abbrev pub ReplaysNoEqualOrders : {D : Type 0} → Replay D → Type 0
ReplaysNoEqualOrders (Ended choices value) = Unit {0}
ReplaysNoEqualOrders (Failed failure choices) = failure.kind ≢ OrdersEqual
