use Rattle.std.proofs.Common.{◌≡◌, map, take}
use Rattle.loom_objects.specs.Operation.Bare.{bare_local_value}
use Rattle.loom_objects.proofs.operation.copies.bare_locals.Given as goal

-- those so far
abbrev pub invariant-loop-local : goal.invariant-loop-local
invariant-loop-local g l = l.told.items ≡ map bare_local_value (take l.local-index l.local-items)
