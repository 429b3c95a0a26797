-- What a thread of a test does between two operations.
use Rattle.std.specs.Prelude.{ℕ, zero, suc, ◌+◌, ◌%◌, ◌^◌, ◌==◌, List, [], ◌∷◌, Option, Some, None, Ok, Err, cond, get_or, replicate, slice_get, slice_set}
use Rattle.loom_objects.specs.declared.operation.Reply.{Reply}
use Rattle.loom_objects.specs.declared.operation.Reply.TheVariants.{Value, Exchanged, Data, Locked, WouldBlock}
use Rattle.loom_text.specs.declared.run.code.Instruction.{Instruction}
use Rattle.loom_text.specs.declared.run.code.Instruction.TheVariants.{Compute, Jump, JumpIfZero, Ask}
use Rattle.loom_text.specs.declared.run.code.Operand.{Operand}
use Rattle.loom_text.specs.declared.run.code.Operand.TheVariants.{Number, Register}
use Rattle.loom_text.specs.Run.Operators.{applied}
use Rattle.loom_text.specs.Run.Progress.{Progress}

-- at the first instruction, with 0 in each register
abbrev pub at_first : ℕ → Progress
at_first registers = record { at = 0; keep = 0; registers = replicate registers 0 }

-- the number that is computed with
abbrev pub held : List ℕ → Operand → ℕ
held registers (Number n) = n
held registers (Register r) = get_or registers r 0

-- the numbers go into the register at this place and into those behind it, as far as there are registers
abbrev pub put_all : ℕ → List ℕ → List ℕ → List ℕ
put_all at [] registers = registers
put_all at (n ∷ numbers) registers = put_all (at + 1) numbers (slice_set registers at n)

-- what a reply answers: for a compare-exchange, 1 where it exchanged and else 0, and what it found; for a lock, 0 where it is held
-- now, and else 1
abbrev pub answer : Reply (List ℕ) → List ℕ
answer (Value n) = n % 2 ^ 32 ∷ []
answer (Exchanged (Ok n)) = 1 ∷ n % 2 ^ 32 ∷ []
answer (Exchanged (Err n)) = 0 ∷ n % 2 ^ 32 ∷ []
answer (Data numbers) = numbers
answer (Locked mutex numbers) = 0 ∷ []
answer WouldBlock = 1 ∷ []
answer reply = []

-- the answer is kept
abbrev pub kept : Progress → Reply (List ℕ) → Progress
kept s reply = record s { registers = put_all s.keep (answer reply) s.registers }

-- one instruction: an operation stays to be handed over
abbrev pub moved_by : Progress → Option Instruction → Progress
moved_by s None = s
moved_by s (Some (Compute to operator one other)) =
    record s { at = s.at + 1; registers = slice_set s.registers to (applied operator (held s.registers one) (held s.registers other)) }
moved_by s (Some (Jump place)) = record s { at = place }
moved_by s (Some (JumpIfZero number place)) = record s { at = cond (held s.registers number == 0) place (s.at + 1) }
moved_by s (Some (Ask asked)) = s

abbrev pub moved : List Instruction → Progress → Progress
moved code s = moved_by s (slice_get code s.at)

-- at the next operation, or past so many instructions
unfoldable pub settled : ℕ → List Instruction → Progress → Progress
settled zero code s = s
settled (suc most) code s = settled most code (moved code s)

-- past the operation, if it is at one
abbrev pub behind : Progress → Option Instruction → Progress
behind s None = s
behind s (Some (Compute to operator one other)) = s
behind s (Some (Jump place)) = s
behind s (Some (JumpIfZero number place)) = s
behind s (Some (Ask asked)) = record s { at = s.at + 1; keep = asked.keep }
