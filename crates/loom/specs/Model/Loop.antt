-- The parts of the loop of a check.
use Rattle.std.specs.Prelude.{ℕ, ◌≡◌, ◌<◌, ◌≤◌, Bool, false, Option, Some, None, Result, Ok, Err}
use Rattle.std.specs.declared.time.Duration.{Duration}
use Rattle.loom_objects.specs.declared.failure.Failure.{Failure}
use Rattle.loom_objects.specs.Tree.Tree.{Tree}
use Rattle.loom_engine.specs.Path.Route.{Route, drives, trail}
use Rattle.loom.specs.declared.model.builder.Builder.{Builder}
use Rattle.loom.specs.declared.model.Limit.{Limit}
use Rattle.loom.specs.declared.model.Limit.TheVariants.{Permutations, Duration as Lasting}
use Rattle.loom.specs.Model.Check.{HasLasted}
use Rattle.loom.specs.Model.Settings.{most_runs}

-- the limit that is reached after so many runs, or none
abbrev pub HasReached : (Duration → Type 0) → Builder → ℕ → Option Limit → Type 0
HasReached answered b runs None = runs < most_runs b
HasReached answered b runs (Some Permutations) = most_runs b ≤ runs
HasReached answered b runs (Some Lasting) = HasLasted answered b.max_duration × (runs < most_runs b)

-- The run of the tree along the path ends with this, and leaves the path so. Where no places are kept a failure has none.
abbrev pub Comes : {D : Type 0} → Tree D → Bool → Route → Result D Failure → Route → Type 0
Comes tree keeps old (Ok value) new = drives tree old ≡ (Ok value, trail new)
Comes tree keeps old (Err failure) new = (drives tree old ≡ (Err failure.kind, trail new)) × (keeps ≡ false → failure.location ≡ None)
