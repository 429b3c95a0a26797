-- A copy of a thread's own value, which may have been given back.
use Rattle.std.specs.Prelude.{ℕ, Option, Some, None, Result, Ok, ◌≡◌}
use Rattle.loom_views.specs.declared.rt.failure.FailureKind.{FailureKind}
use Rattle.loom_objects.specs.declared.rt.run.Entry.{Entry}
use Rattle.loom_objects.specs.Scene.Stage.{Stage, world_of}
use Rattle.loom_objects.specs.Rules.Locals.{local_or}
use Rattle.loom_objects.specs.World.{World}
use Rattle.loom_views.specs.Views.{Points}

module _ {D : Type 0} where
  abbrev pub answer_or : Result (Entry D × World D) FailureKind → Option (Entry D) → World D → Result (Entry D × World D) FailureKind
  answer_or gone None w = gone
  answer_or gone (Some entry) w = Ok (entry, w)

  -- whatever comes where the value was given back, the rule of a read answers this
  abbrev pub ReadsLocal : ℕ → Stage D → Option (Entry D) → Type 0
  ReadsLocal key s answer = (p : Points) → (left : ℕ) → (gone : Result (Entry D × World D) FailureKind) → local_or gone key (world_of p left s) ≡ answer_or gone answer (world_of p left s)
