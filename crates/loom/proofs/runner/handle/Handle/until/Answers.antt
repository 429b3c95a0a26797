use Rattle.std.proofs.Common.{inl, inr}
use Rattle.std.proofs.lemmas.Result.{err_from_is_err_and}
use Rattle.loom.specs.Runner.Forms.{untried, tried_again}
use Rattle.loom.proofs.runner.handle.Handle.until.Goals as goal

pub loop-init : goal.loop-init
loop-init g c = record { callable = c.requires; tried = untried }

pub returns-in_err-ask_closure-clause-stopped : goal.returns-in_err-ask_closure-clause-stopped
returns-in_err-ask_closure-clause-stopped g c =
    let p = err_from_is_err_and c.from_residual.result c.from_residual.ensures.1 in
    rw (p.1, p.2)
    (record { last = c.loop.holds; left = c.ask_closure.new.closure; before = c.loop.self; tried = c.loop.invariant.tried; stops = inl c.in_err-ask_closure.ensures.called })

pub returns-in_err-yield_now-clause-stopped : goal.returns-in_err-yield_now-clause-stopped
returns-in_err-yield_now-clause-stopped g c =
    let p = err_from_is_err_and c.from_residual-in_err-yield_now.result c.from_residual-in_err-yield_now.ensures.1 in
    rw (p.1, p.2)
    (record {
      last = c.loop.holds;
      left = c.ask_closure.new.closure;
      before = c.loop.self;
      tried = c.loop.invariant.tried;
      stops = inr (c.ask_closure.new.handle, rw c.if-branch.false at c.in_ok-ask_closure.ensures.called, c.in_err-yield_now.ensures.stopped);
    })

pub loop-preserved : goal.loop-preserved
loop-preserved g c = record {
  callable = c.ask_closure.ensures.again;
  tried =
      tried_again c.loop.holds c.ask_closure.new.closure c.loop.self c.ask_closure.new.handle c.yield_now.new.self c.loop.invariant.tried
      (rw c.if-branch.false at c.in_ok-ask_closure.ensures.called) (record { told = c.in_ok-yield_now.ensures.tells; thread = c.yield_now.ensures.thread });
}
