-- Final states that were counted.
use Rattle.std.specs.Prelude.{ℕ, List}
use Rattle.loom_text.specs.declared.run.layout.Layout.{Layout}
use Rattle.loom_text.specs.declared.test.Test.{Test}

-- the numbers that a final state shows, and how many runs ended with it
pub record Counted : Type 0 where
  pub numbers : List ℕ
  pub runs : ℕ

-- the final states of a test's runs that count, in order, and how many of these runs met the condition and how many didn't
pub record Tallied : Type 0 where
  pub test : Test
  pub layout : Layout
  pub states : List Counted
  pub positive : ℕ
  pub negative : ℕ
