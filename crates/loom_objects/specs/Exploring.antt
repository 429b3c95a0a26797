-- Whether the search explores at the nodes that a run meets, and how operations switch that.
use Rattle.std.specs.Prelude.{Bool, true, false, Result, Ok, Err}
use Rattle.loom_views.specs.declared.rt.failure.FailureKind.{FailureKind}
use Rattle.loom_views.specs.declared.rt.failure.FailureKind.TheVariants.{ExploreSwitch}
use Rattle.loom_objects.specs.declared.operation.ExploreOp.{ExploreOp}
use Rattle.loom_objects.specs.declared.operation.ExploreOp.TheVariants.{Explore, StopExploring, SkipBranch}
use Rattle.loom_objects.specs.declared.operation.Request.{Request}
use Rattle.loom_objects.specs.declared.operation.Request.TheVariants as requests
use Rattle.loom_objects.specs.declared.rt.exploring.Exploring.{Exploring}
use Rattle.loom_objects.specs.declared.rt.exploring.Exploring.TheVariants.{On, Off, Skipping}

abbrev pub is_on : Exploring → Bool
is_on On = true
is_on Off = false
is_on Skipping = false

-- as a run begins
abbrev pub initially : Bool → Exploring
initially true = On
initially false = Off

-- A switch that would change nothing fails, unless the rest of the run is skipped: then both do nothing.
abbrev pub switched : ExploreOp → Exploring → Result Exploring FailureKind
switched Explore On = Err ExploreSwitch
switched Explore Off = Ok On
switched Explore Skipping = Ok Skipping
switched StopExploring On = Ok Off
switched StopExploring Off = Err ExploreSwitch
switched StopExploring Skipping = Ok Skipping
switched SkipBranch exploring = Ok Skipping

-- it is such a switch
abbrev pub is_switch : {D S : Type 0} → Request D S → Bool
is_switch (requests.Explore todo) = true
is_switch _ = false
