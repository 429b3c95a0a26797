-- A thread that raises its version changes no object.
use Rattle.std.specs.Prelude.{Result, Ok, Err}
use Rattle.loom_views.specs.declared.rt.failure.FailureKind.{FailureKind}
use Rattle.loom_views.specs.Views.{Points, points_after_raise}
use Rattle.loom_objects.specs.Rules.Moves.{raises, with_points}
use Rattle.loom_objects.specs.Rules.Rule.{◌>>=◌}
use Rattle.loom_objects.specs.World.{World}
use Rattle.loom_engine.proofs.Runs.Fairness.{IsFairResult, raise_fair}
use Rattle.loom_engine.proofs.Runs.Ruling.{Keeping}

module _ {D : Type 0} where
  pub raises_keeping : {A : Type 0} (w : World D) (next : World D → Result (A × World D) FailureKind) → ((p : Points) → Keeping w (next (with_points p w))) → Keeping w (raises w >>= next)
  raises_keeping w next h = by_points (points_after_raise w.points w.active) (raise_fair w.points w.active)
    where
      by_points : (r : Result Points FailureKind) → IsFairResult r → Keeping w ((r >>= (λ p. Ok (with_points p w))) >>= next)
      by_points (Ok p) fair = h p
      by_points (Err kind) fair = fair
