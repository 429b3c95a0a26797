-- What is found where a run is compared with the one before it.
use Rattle.std.specs.Prelude.{ℕ, ◌≡◌, ◌⊎◌, ◌≤◌, List, Option, Some, None, slice_get}
use Rattle.loom_views.specs.declared.rt.failure.FailureKind.TheVariants.{NotDeterministic}
use Rattle.loom_objects.specs.declared.failure.Failure.{Failure}
use Rattle.loom_objects.specs.Operation.Bare.{bare_request}
use Rattle.loom.specs.declared.runner.error.Changed.{Changed}
use Rattle.loom.specs.declared.runner.error.RunnerError.{RunnerError}
use Rattle.loom.specs.declared.runner.error.RunnerError.TheVariants as error
use Rattle.loom.specs.declared.runner.history.event.Event.{Event}
use Rattle.loom.specs.Runner.Alike.{Agree, IsSame, Says, Trace}
use Rattle.loom.specs.Runner.Events.{failed_by, last_event}

-- a run failed as not deterministic
abbrev pub IsParted : Option Failure → Type 0
IsParted None = ⊥
IsParted (Some failure) = failure.kind ≡ NotDeterministic

module _ {D : Type 0} where
  -- the run agrees with the one before, or it failed as not deterministic
  abbrev pub Passes : Trace D → Trace D → Type 0
  Passes before after = IsParted (failed_by (last_event after.events)) ⊎ Agree before after

  -- it doesn't, as the error says; or memory was refused
  abbrev pub IsRefusedOrSays : Trace D → Trace D → ℕ → RunnerError → Type 0
  IsRefusedOrSays before after number e = (e ≡ error.Memory) ⊎ ((change : Changed) × (e ≡ error.Changed change) × Says before after change × (change.run ≡ number))

  -- The events are the same, where as many choices were made before them and so many are shared. Or they aren't.
  abbrev pub IsLike : ℕ → Event D → Event D → Type 0
  IsLike shared d e = e.choices_before ≡ d.choices_before → d.choices_before ≤ shared → IsSame d e

  abbrev pub IsOther : ℕ → Event D → Event D → Type 0
  IsOther shared d e = (e.choices_before ≡ d.choices_before) × (d.choices_before ≤ shared) × (IsSame d e → ⊥)

  -- the change at the nth events of two runs
  pub record IsChangeOf (run : ℕ) (d e : Event D) (change : Changed) : Type 0 where
    pub run_so : change.run ≡ run
    pub thread : change.thread ≡ e.by
    pub before_so : change.before ≡ bare_request d.op
    pub now_so : change.now ≡ bare_request e.op

  abbrev pub IsChangeAt : ℕ → List (Event D) → List (Event D) → ℕ → Changed → Type 0
  IsChangeAt run old events n change = (d e : Event D) → slice_get old n ≡ Some d → slice_get events n ≡ Some e → IsChangeOf run d e change
