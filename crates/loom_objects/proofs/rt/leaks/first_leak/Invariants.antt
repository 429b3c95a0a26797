use Rattle.std.proofs.Common.{◌≡◌, length, drop}
use Rattle.loom_objects.specs.Rules.Leaks.{first_leak}
use Rattle.loom_objects.proofs.rt.leaks.first_leak.Given as goal

abbrev pub invariant-loop-i : goal.invariant-loop-i
invariant-loop-i g l = (first_leak l.fn.objects ≡ first_leak (drop l.i l.fn.objects)) × (length l.fn.objects ≡ l.i-end)
