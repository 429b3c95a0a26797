-- Who makes a thread or an object needs memory.
use Rattle.std.proofs.Common.{◌≡◌, ◌+◌, ◌-◌, ◌<◌, Bool, true, false, length, arith, refl, subst}
use Rattle.std.specs.Prelude.{nat_lt, Ok, ⊤}
use Rattle.loom_views.specs.declared.rt.failure.FailureKind.TheVariants.{TooManySteps}
use Rattle.loom_objects.specs.declared.operation.Request.{Request}
use Rattle.loom_objects.specs.declared.rt.run.Entry.{Entry}
use Rattle.loom_objects.specs.Rules.Rule.{check}
use Rattle.loom_objects.specs.Rules.Tables.{counted, needs_memory}
use Rattle.loom_objects.specs.World.{World}
use Rattle.loom_engine.specs.Runs.Growth.{GrowthLaw}
use Rattle.loom_engine.proofs.Runs.Answering.{Answers, answers_then}
use Rattle.loom_engine.proofs.Runs.Growing.{Stays}
use Rattle.loom_engine.proofs.Runs.Kinds.{begins_stays}

module _ {D : Type 0} where
  counted_stays : (todo : Request D ⊤) (w : World D) → needs_memory todo ≡ false → Answers (Stays w) (counted todo w)
  counted_stays todo w h = answers_then (Stays w) (check (nat_lt 0 w.steps_left) TooManySteps) _ (λ u. begins_stays todo (record w { steps_left = w.steps_left - 1 }) h)

  pub growth_law : GrowthLaw D
  growth_law todo w entry v h e = subst (Answers (Stays w)) e (counted_stays todo w h)

  -- what makes a thread or an object needs memory
  pub made_needs_memory : (todo : Request D ⊤) (w : World D) (entry : Entry D) (v : World D) → counted todo w ≡ Ok (entry, v)
      → 0 < length v.threads - length w.threads + (length v.objects - length w.objects) → needs_memory todo ≡ true
  made_needs_memory todo w entry v e more = by_need (needs_memory todo) refl
    where
      by_need : (needs : Bool) → needs_memory todo ≡ needs → needs ≡ true
      by_need true h = refl
      by_need false h = let s = growth_law todo w entry v h e in absurd (omega (arith, s.0, s.1, more))
