-- The examples' runs.
use Rattle.std.proofs.Common.{◌≡◌, ◌≤◌, true, List, [], ◌∷◌, length, Some, None, inl, arith, subst}
use mathlib.Core.Path.{refl}
use native.Mathlib.Decide.{ℕ_discrete}
use Rattle.loom_objects.specs.declared.choice.Choice.{Choice}
use Rattle.loom_engine.specs.Walk.Choices.{same, same_thread, same_flag, among}
use Rattle.loom_objects.specs.Tree.Question.{Made, Among}
use Rattle.loom_engine.specs.Walk.Machine.{run, extend}
use Rattle.loom_engine.specs.Walk.Sound.{IsMachine}
use Rattle.loom_engine.specs.Walk.Path.{new_nodes, step}
use Rattle.loom_engine.specs.Walk.Example.{t, one_choice, two_ways, ExampleLaw}

only_node : Made
only_node = record { exploring = true; default = t 0; options = t 0 ∷ t 1 ∷ []; offers = [] }

is_only : (c : List Choice) (n : Made) → one_choice c ≡ Some n → only_node ≡ n
unfolding only_node
is_only [] n h = cc h
is_only (x ∷ c) n h = absurd (cc h)

two_ways_is : IsMachine two_ways
unfolding only_node
two_ways_is = record {
  ends = ends;
  default = λ c n h. subst (λ (y : Made). Among y.default y.options) (is_only c n h) (inl refl);
  few = λ c n h. subst (λ (y : Made). length y.options ≤ 7) (is_only c n h) (omega arith);
  full = λ c n h e f. (refl, subst (λ (y : Made). y.exploring ≡ true) (is_only c n h) refl);
  values = λ c n h f. refl;
  marked = λ before c after n o h e. absurd (cc e);
}
  where
    ends : (c : List Choice) → 1 ≤ length c → one_choice c ≡ None
    ends [] h = absurd (omega arith)
    ends (x ∷ c) h = refl

pub example_law : ExampleLaw
unfolding run extend new_nodes step same same_thread same_flag among ℕ_discrete
example_law = (two_ways_is, refl, refl, refl, refl)
