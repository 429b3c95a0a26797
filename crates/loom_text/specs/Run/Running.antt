-- A thread of a test: the program of the test, the thread's place in it, and how far it is.
use Rattle.std.specs.Prelude.{ℕ}
use Rattle.loom_text.specs.declared.run.code.Program.{Program}
use Rattle.loom_text.specs.Run.Progress.{Progress}

pub record Running : Type 0 where
  pub program : Program
  pub thread : ℕ
  pub progress : Progress
