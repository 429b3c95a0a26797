-- When data is copied, for which memory may be refused: a reader of a lock gets a copy.
use Rattle.std.specs.Prelude.{ℕ, ◌≡◌, Result, Ok, Err}
use Rattle.loom_views.specs.Views.{Points}
use Rattle.loom_views.specs.declared.rt.failure.FailureKind.{FailureKind}
use Rattle.loom_objects.specs.declared.operation.Reply.{Reply}
use Rattle.loom_objects.specs.declared.operation.Reply.TheVariants.{ReadLocked}
use Rattle.loom_objects.specs.Scene.Stage.{Stage, world_of}
use Rattle.loom_objects.specs.World.{World}

module _ {D : Type 0} where
  -- what a rule answers
  abbrev pub answer_of : {A : Type 0} → Result (A × World D) FailureKind → Result A FailureKind
  answer_of (Ok x) = Ok x.0
  answer_of (Err kind) = Err kind

  -- whatever the points are, the rule answers by a copy of the data of lock n
  abbrev pub Copies : ℕ → (World D → Result (Reply D × World D) FailureKind) → Stage D → Type 0
  Copies n rule old = (copy : D) × ((p : Points) → (left : ℕ) → answer_of (rule (world_of p left old)) ≡ Ok (ReadLocked n copy))
