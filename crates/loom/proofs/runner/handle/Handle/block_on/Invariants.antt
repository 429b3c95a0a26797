use Rattle.std.specs.Fn.{CalledWithState}
use Rattle.loom.specs.Runner.Forms.{Polled}
use Rattle.loom.proofs.runner.handle.Handle.block_on.Given as goal

-- the closure may be called again, and was polled in vain so far
abbrev pub invariant-loop : goal.invariant-loop
invariant-loop g l = record {
  callable : goal.F-IsAlwaysCallable g l.poll;
  polled : Polled (CalledWithState g.F.FnMut) l.fn.poll l.fn.self l.future l.waker l.poll l.self;
}
