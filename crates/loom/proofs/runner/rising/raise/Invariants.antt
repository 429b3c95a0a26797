use Rattle.std.proofs.Common.{◌≤◌, ◌-◌}
use Rattle.std.specs.Fn.{CalledAtMut}
use Rattle.loom.proofs.Closures.Rising.{AreComplete}
use Rattle.loom.proofs.runner.rising.raise.Given as goal

-- the checks with lower bounds were complete
abbrev pub invariant-loop-report : goal.invariant-loop-report
invariant-loop-report g l = record {
  callable : goal.F-IsAlwaysCallable g l.closure;
  within : l.bound ≤ l.up_to;
  lower : AreComplete (CalledAtMut g.F.FnMut) l.builder l.bound;
}

abbrev pub decreases-loop-report : goal.decreases-loop-report
decreases-loop-report g l = l.up_to - l.bound
