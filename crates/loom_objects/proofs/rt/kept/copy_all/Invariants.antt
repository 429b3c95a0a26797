use Rattle.std.proofs.Common.{◌≡◌, take}
use Rattle.loom_objects.proofs.rt.kept.copy_all.Given as goal

-- those so far
abbrev pub invariant-loop-value : goal.invariant-loop-value
invariant-loop-value g l = l.copy ≡ take l.value-index l.values
