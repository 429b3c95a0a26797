use Rattle.std.proofs.Common.{◌≡◌}
use Rattle.std.specs.Fn.{Called}
use Rattle.loom_ops.specs.Atomic.{update}
use Rattle.loom.specs.Runner.Forms.{Fetches}
use Rattle.loom.proofs.runner.handle.Handle.fetch_update.Given as goal

-- the closure may be called again, the handle is the same thread's, and this was read last
abbrev pub invariant-loop : goal.invariant-loop
invariant-loop g l = record {
  callable : goal.F-IsAlwaysCallable g l.next;
  thread : l.self.thread ≡ l.fn.self.thread;
  fetches : Fetches g.T.Numeric.value g.T.Numeric.number (λ f read new h. Called g.F.FnMut f (read, tt) new h) (update l.atomic l.set_order l.fetch_order) l.fn.next l.fn.self.told l.next l.read l.self.told;
}
