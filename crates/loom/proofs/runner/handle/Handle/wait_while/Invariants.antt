use Rattle.std.proofs.Common.{◌≡◌}
use Rattle.std.specs.Fn.{CalledAt}
use Rattle.loom.specs.Runner.Forms.{Slept}
use Rattle.loom.proofs.runner.handle.Handle.wait_while.Given as goal

-- the closure may be called again, the handle is the same thread's, and the thread has waited so far
abbrev pub invariant-loop : goal.invariant-loop
invariant-loop g l = record {
  callable : goal.F-IsAlwaysCallable g l.sleeps;
  thread : l.self.thread ≡ l.fn.self.thread;
  slept : Slept (CalledAt g.F.FnMut) l.condvar l.fn.sleeps (l.fn.guard, l.fn.value) l.fn.self.told l.sleeps l.held l.self.told;
}
