use Rattle.std.proofs.Common.{◌≡◌, take}
use Rattle.loom_objects.proofs.rt.condvar.copied_condvar.Given as goal

-- those so far
abbrev pub invariant-loop-waiter : goal.invariant-loop-waiter
invariant-loop-waiter l = l.copy.waiters.items ≡ take l.waiter-index l.waiter-items
