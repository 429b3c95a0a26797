use Rattle.std.proofs.Common.{◌≡◌, take}
use Rattle.loom_text.proofs.run.code.Program.try_clone.Given as goal

-- those so far
abbrev pub invariant-loop-code : goal.invariant-loop-code
invariant-loop-code l = l.threads ≡ take l.code-index l.code-items
