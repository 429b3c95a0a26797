-- A run that fails.
use Rattle.std.specs.Prelude.{None}
use Rattle.loom_views.specs.declared.rt.failure.FailureKind.{FailureKind}
use Rattle.loom_objects.specs.declared.failure.Stop.{Stop}
use Rattle.loom_objects.specs.declared.failure.Stop.TheVariants.{Failure}

-- the failure of this kind
abbrev pub failure_of : FailureKind → Stop
failure_of kind = Failure (record { kind = kind; location = None })
