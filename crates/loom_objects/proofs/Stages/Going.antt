-- Effects that go on from another one.
use Rattle.std.proofs.Common.{◌≡◌, ap, refl}
use Rattle.std.specs.Prelude.{Result, Ok, Err}
use Rattle.loom_views.specs.declared.rt.failure.FailureKind.{FailureKind}
use Rattle.loom_objects.specs.Rules.Rule.{◌>>=◌}
use Rattle.loom_objects.specs.Scene.Stage.{Stage, Does}
use Rattle.loom_objects.specs.World.{World}

-- where the other one fails
pub fails_first : {A B D : Type 0} (first : World D → Result (A × World D) FailureKind) (next : A × World D → Result (B × World D) FailureKind) (old mid new : Stage D) (kind : FailureKind) (result : Result B FailureKind)
    → result ≡ Err kind → Does first old (Err kind) mid → Does (λ w. first w >>= next) old result new
fails_first {A} {B} {D} first next old mid new kind result failed does =
    rw failed (λ p left shown. ap (λ (answer : Result (A × World D) FailureKind). answer >>= next) (does p left shown))

-- what doesn't look at the state leaves it as it is
pub by_answer : {A D : Type 0} (r : Result A FailureKind) (s : Stage D) → Does (λ w. r >>= (λ a. Ok (a, w))) s r s
by_answer (Ok a) s = λ p left shown. (refl, shown)
by_answer (Err kind) s = λ p left shown. refl
