use Rattle.std.proofs.Common.{◌≡◌, map, take}
use Rattle.loom_objects.specs.Operation.Bare.{nothing}
use Rattle.loom_objects.proofs.operation.copies.bare_messages.Given as goal

-- as many as there were places so far
abbrev pub invariant-loop-place : goal.invariant-loop-place
invariant-loop-place g l = l.told ≡ map nothing (take l._place l.messages)
