-- What is handed over, and what is chosen, look at points by moves alone.
use Rattle.std.proofs.Common.{◌≡◌, ℕ, Bool, true, false, List, refl, inl}
use Rattle.std.specs.Prelude.{◌-◌, nat_lt, slice_get, Result, ⊤}
use Rattle.loom_views.specs.Views.{Points}
use Rattle.loom_views.specs.declared.rt.failure.FailureKind.{FailureKind}
use Rattle.loom_views.specs.declared.rt.failure.FailureKind.TheVariants.{Misuse, TooManySteps}
use Rattle.loom_objects.specs.declared.operation.Request.{Request}
use Rattle.loom_objects.specs.Rules.Rule.{◌>>=◌, check, found}
use Rattle.loom_objects.specs.Rules.Tables.{chosen, counted, op_begins}
use Rattle.loom_objects.specs.Schedule.Offers.{chooses}
use Rattle.loom_objects.specs.Tree.Tree.{came}
use Rattle.loom_objects.specs.World.{World}
use Rattle.loom_engine.specs.Covering.States.{BothAlike}
use Rattle.loom_engine.specs.Covering.Points.{TellsMoves}
use Rattle.loom_engine.proofs.Covering.Alike.{limit_left, limit_right}
use Rattle.loom_engine.proofs.Runs.Kinds.{op_begins_so, takes_effect_so}
use Rattle.loom_engine.proofs.Covering.Rules.{Follows, Like, SeenSame, YieldsTell, after, answer_then, with_other}

module _ {D V : Type 0} (limits : FailureKind → Bool) (steps : limits TooManySteps ≡ true) (seen : Points → V) (see : List ℕ → List ℕ) (more : YieldsTell see) (tells : TellsMoves limits seen) where
  abbrev So : {A : Type 0} → Result (A × World D) FailureKind → Result (A × World D) FailureKind → Type 0
  So r s = Follows limits seen see r s

  abbrev Other : Points → ℕ → List ℕ → World D → World D
  Other q k y w = with_other limits seen see q k y w

  -- each operation is counted, and too many are a limit
  pub counted_so : (todo : Request D ⊤) (w : World D) (q : Points) (k : ℕ) (y : List ℕ) → SeenSame limits seen see w q y → So (counted todo w) (counted todo (Other q k y w))
  counted_so todo w q k y e = by (nat_lt 0 w.steps_left) (nat_lt 0 k)
    where
      by : (a b : Bool) → So (check a TooManySteps >>= (λ u. op_begins todo (record w { steps_left = w.steps_left - 1 }))) (check b TooManySteps >>= (λ u. op_begins todo (record (Other q k y w) { steps_left = k - 1 })))
      by true true = op_begins_so limits steps seen see more tells todo (record w { steps_left = w.steps_left - 1 }) q (k - 1) y e
      by true false = limit_right limits (BothAlike (Like limits seen see)) (came (op_begins todo (record w { steps_left = w.steps_left - 1 }))) TooManySteps steps
      by false true = limit_left limits (BothAlike (Like limits seen see)) TooManySteps (came (op_begins todo (record (Other q k y w) { steps_left = k - 1 }))) steps
      by false false = inl refl

  pub chosen_so : (t : ℕ) (w : World D) (q : Points) (k : ℕ) (y : List ℕ) → SeenSame limits seen see w q y → So (chosen t w) (chosen t (Other q k y w))
  chosen_so t w q k y e =
      answer_then limits seen see (chooses t w) (chooses t (Other q k y w)) _ _ (after limits seen see (found (slice_get w.threads t) Misuse) _ _ (λ thread. (refl, (_, _, _, e, refl)))) (λ todo u p j z f. takes_effect_so limits steps seen see more tells todo u p j z f)
