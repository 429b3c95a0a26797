-- The runs of the example.
use Rattle.std.proofs.Common.{zero, suc, Some, None, arith, refl}
use native.Mathlib.Decide.{ℕ_discrete}
use Rattle.loom_objects.specs.declared.choice.Choice.{Choice}
use Rattle.loom_objects.specs.declared.choice.Choice.TheVariants.{Thread, Load, Spurious}
use Rattle.loom_engine.specs.Walk.Choices.{same, same_thread, same_flag, among}
use Rattle.loom_engine.specs.Walk.Path.{step}
use Rattle.loom_engine.specs.Trees.Comparing.{same_made, same_ability, same_choices, same_offers}
use Rattle.loom_engine.specs.Trees.Sound.{IsSoundTree}
use Rattle.loom.specs.Model.BoundExample.{in_turn, ExampleLaw}

wise : (c : Choice) → IsSoundTree (in_turn c)
wise (Thread (Some zero)) = tt
wise (Thread (Some (suc zero))) = tt
wise (Thread (Some (suc (suc k)))) = tt
wise (Thread None) = tt
wise (Load slot) = tt
wise (Spurious answer) = tt

pub example_law : ExampleLaw
unfolding step same same_thread same_flag among ℕ_discrete same_made same_ability same_choices same_offers
example_law = record {
  sound = ((refl, omega arith), λ d a. ((refl, omega arith), λ c b. wise c));
  fails = refl;
  no_preemption = refl;
  at_0 = refl;
  at_1 = refl;
}
