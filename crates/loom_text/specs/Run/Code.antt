-- The code of a test's threads.
use Rattle.std.specs.Prelude.{ℕ, List, [], Option, Some, None, slice_get}
use Rattle.loom_text.specs.declared.run.code.Code.{Code}
use Rattle.loom_text.specs.declared.run.code.Instruction.{Instruction}
use Rattle.loom_text.specs.declared.run.code.Program.{Program}

abbrev pub instructions_in : Option Code → List Instruction
instructions_in None = []
instructions_in (Some code) = code.instructions

abbrev pub registers_in : Option Code → ℕ
registers_in None = 0
registers_in (Some code) = code.registers

-- the instructions of the thread at this place
abbrev pub code_of : Program → ℕ → List Instruction
code_of program thread = instructions_in (slice_get program.threads thread)

-- how many registers it has
abbrev pub registers_of : Program → ℕ → ℕ
registers_of program thread = registers_in (slice_get program.threads thread)
