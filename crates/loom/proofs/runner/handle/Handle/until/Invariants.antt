use Rattle.std.specs.Fn.{CalledAtMut}
use Rattle.loom.specs.Runner.Forms.{Tried}
use Rattle.loom.proofs.runner.handle.Handle.until.Given as goal

-- the closure may be called again, and was asked in vain so far
abbrev pub invariant-loop : goal.invariant-loop
invariant-loop g l = record {
  callable : goal.F-IsAlwaysCallable g l.holds;
  tried : Tried (CalledAtMut g.F.FnMut) l.fn.holds l.fn.self l.holds l.self;
}
