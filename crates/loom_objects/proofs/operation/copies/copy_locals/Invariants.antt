use Rattle.std.proofs.Common.{◌≡◌, take}
use Rattle.loom_objects.proofs.operation.copies.copy_locals.Given as goal

abbrev pub invariant-loop-item : goal.invariant-loop-item
invariant-loop-item g l = l.made.items ≡ take l.item-index l.all
