-- How far a thread of a test is.
use Rattle.std.specs.Prelude.{ℕ, List}

-- the place of its next instruction, the register for the answer of its last operation, and what its registers hold
pub record Progress : Type 0 where
  pub at : ℕ
  pub keep : ℕ
  pub registers : List ℕ
