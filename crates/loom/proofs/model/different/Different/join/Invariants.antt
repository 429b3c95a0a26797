use Rattle.loom.proofs.ModelLemmas.Noting.{IsJoining}
use Rattle.loom.proofs.model.different.Different.join.Given as goal

-- what is left of the other count is still to be noted
abbrev pub invariant-hashes : goal.invariant-hashes
invariant-hashes l = IsJoining l.fn.other l.fn.self l.self l.hash-iterator
