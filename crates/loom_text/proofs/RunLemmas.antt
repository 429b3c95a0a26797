-- Registers, and instructions that are no operations.
use Rattle.std.proofs.Common.{◌≡◌, ℕ, zero, suc, ◌+◌, ◌≤◌, List, [], ◌∷◌, length, refl, ap, ◌∙◌, arith}
use Rattle.std.proofs.lemmas.List.{set_past}
use Rattle.loom_text.specs.declared.run.code.Instruction.{Instruction}
use Rattle.loom_text.specs.Run.Progress.{Progress}
use Rattle.loom_text.specs.Run.State.{moved, put_all, settled}

-- beyond the registers nothing is put
pub put_all_past : (at : ℕ) (numbers registers : List ℕ) → length registers ≤ at → put_all at numbers registers ≡ registers
put_all_past at [] registers h = refl
put_all_past at (n ∷ numbers) registers h = rw (set_past registers at n h) (put_all_past (at + 1) numbers registers (omega arith))

pub settled_none : (most : ℕ) (code : List Instruction) (s : Progress) → most ≤ 0 → settled most code s ≡ s
unfolding settled
settled_none zero code s h = refl
settled_none (suc most) code s h = absurd (omega (arith, h))

pub settled_more : (most rest : ℕ) (code : List Instruction) (s : Progress) → most ≡ rest + 1 → settled most code s ≡ settled rest code (moved code s)
unfolding settled
settled_more zero rest code s h = absurd (omega (arith, h))
settled_more (suc most) rest code s h = let e : rest ≡ most = omega (arith, h) in rw e refl

-- where an operation waits nothing moves
pub settled_still : (most : ℕ) (code : List Instruction) (s : Progress) → moved code s ≡ s → settled most code s ≡ s
unfolding settled
settled_still zero code s h = refl
settled_still (suc most) code s h = ap (settled most code) h ∙ settled_still most code s h
