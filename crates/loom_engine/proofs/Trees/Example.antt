-- The example's runs.
use Rattle.std.proofs.Common.{zero, suc, Some, None, arith, refl}
use native.Mathlib.Decide.{ℕ_discrete}
use Rattle.loom_objects.specs.declared.choice.Choice.{Choice}
use Rattle.loom_objects.specs.declared.choice.Choice.TheVariants.{Thread, Load, Spurious}
use Rattle.loom_engine.specs.Walk.Choices.{same, same_thread, same_flag, among}
use Rattle.loom_engine.specs.Walk.Path.{step}
use Rattle.loom_engine.specs.Trees.Comparing.{same_made, same_ability, same_choices, same_offers}
use Rattle.loom_engine.specs.Trees.Sound.{IsSoundTree}
use Rattle.loom_engine.specs.Trees.Example.{after_choice, ExampleLaw}

wise : (c : Choice) → IsSoundTree (after_choice c)
wise (Thread (Some zero)) = (tt, λ d a. tt)
wise (Thread (Some (suc k))) = tt
wise (Thread None) = tt
wise (Load slot) = tt
wise (Spurious answer) = tt

pub example_law : ExampleLaw
unfolding step same same_thread same_flag among ℕ_discrete same_made same_ability same_choices same_offers
example_law = (((refl, omega arith), λ c a. wise c), refl)
