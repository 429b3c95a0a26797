-- An effect that copies data, or goes on from another one.
use Rattle.std.proofs.Common.{◌≡◌, ℕ, sym, subst}
use Rattle.std.specs.Prelude.{Ok, Err, Result, IfOk}
use Rattle.loom_views.specs.Views.{Points, ShowsViews}
use Rattle.loom_views.specs.declared.rt.failure.FailureKind.{FailureKind}
use Rattle.loom_objects.specs.Stages.Memory.{memory_outside}
use Rattle.loom_objects.specs.Scene.Stage.{Stage, world_of, points_of, Does}
use Rattle.loom_objects.specs.World.{World}

-- a copy that was made is what the rule answers
pub copies : {A E D : Type 0} (rule : World D → Result (A × World D) FailureKind) (old new : Stage D) (copy : Result A E) (a : A)
    → IfOk copy (λ b. b ≡ a) → Does rule old (Ok a) new → IfOk (memory_outside (Ok copy)) (λ answer. Does rule old answer new)
copies {A} rule old new (Ok b) a same does = subst (λ (x : A). Does rule old (Ok x) new) (sym same) does
copies rule old new (Err e) a same does = tt

-- a failure comes before any lack of memory
pub fails_outside : {A E D : Type 0} (rule : World D → Result (A × World D) FailureKind) (old new : Stage D) (kind : FailureKind) (result : Result (Result A E) FailureKind)
    → result ≡ Err kind → Does {A = A} rule old (Err kind) new → IfOk (memory_outside result) (λ answer. Does rule old answer new)
fails_outside {A} {E} rule old new kind result e does =
    subst (λ (r : Result (Result A E) FailureKind). IfOk (memory_outside r) (λ answer. Does rule old answer new)) (sym e) does

-- points that a rule led to
pub comes_so : {A D : Type 0} (first : World D → Result (A × World D) FailureKind) (old mid : Stage D) (a : A) → Does first old (Ok a) mid → (p : Points) (left : ℕ) → ShowsViews p old.views
    → (q : Points) × (first (world_of p left old) ≡ Ok (a, world_of q left mid)) × ShowsViews q mid.views
comes_so first old mid a does p left shown = let o = does p left shown in (points_of p (first (world_of p left old)), o.0, o.1)
