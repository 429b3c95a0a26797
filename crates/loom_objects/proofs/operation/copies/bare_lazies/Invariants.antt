use Rattle.std.proofs.Common.{◌≡◌, map, take}
use Rattle.loom_objects.specs.Operation.Bare.{bare_lazy_value}
use Rattle.loom_objects.proofs.operation.copies.bare_lazies.Given as goal

-- those so far
abbrev pub invariant-loop-lazy : goal.invariant-loop-lazy
invariant-loop-lazy g l = l.told.items ≡ map bare_lazy_value (take l.lazy-index l.lazy-items)
