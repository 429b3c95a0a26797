-- A run that closes ends with main's result.
use Rattle.std.proofs.Common.{◌≡◌, Result, Ok, Err, ap, subst}
use Rattle.std.specs.Prelude.{⊤}
use Rattle.loom_views.specs.declared.rt.failure.FailureKind.{FailureKind}
use Rattle.loom_objects.specs.declared.operation.Turn.{Turn}
use Rattle.loom_objects.specs.declared.operation.Turn.TheVariants.{Ended}
use Rattle.loom_objects.specs.Rules.Ending.{end_of}
use Rattle.loom_objects.specs.Rules.Leaks.{check_leak, first_leak}
use Rattle.loom_objects.specs.Rules.Moves.{takes_result}
use Rattle.loom_objects.specs.Rules.Rule.{◌>>=◌}
use Rattle.loom_objects.specs.World.{World}
use Rattle.loom_engine.specs.Covering.Parts.{IsEnded}

module _ {D : Type 0} where
  pub ended_turn : (w : World D) (turn : Turn D) (taken : World D) → end_of w ≡ Ok (turn, taken) → IsEnded turn
  ended_turn w turn taken e = by (check_leak (first_leak w.objects)) (takes_result 0 w) e
    where
      by : (r : Result ⊤ FailureKind) (s : Result (D × World D) FailureKind)
          → ◌≡◌ {A = Result (Turn D × World D) FailureKind} (r >>= (λ u. ◌>>=◌ {B = Turn D × World D} s (λ (value, after). Ok (Ended value, after)))) (Ok (turn, taken)) → IsEnded turn
      by (Ok u) (Ok (value, after)) e =
          let both : ◌≡◌ {A = Turn D × World D} (Ended value, after) (turn, taken) = cc e in
          subst IsEnded (ap (λ (x : Turn D × World D). x.0) both) tt
      by (Ok u) (Err kind) e = absurd (cc e)
      by (Err kind) s e = absurd (cc e)
