use Rattle.std.proofs.Common.{inl, inr}
use Rattle.std.proofs.lemmas.Result.{err_from_is_err_and}
use Rattle.loom.specs.Runner.Forms.{unpolled, polled_again}
use Rattle.loom.proofs.runner.handle.Handle.block_on.Goals as goal

pub loop-init : goal.loop-init
loop-init g c = record { callable = c.requires; polled = unpolled c.begin_future.new.self c.in_ok-future.ensures.tells c.begin_future.ensures.thread c.waker-waker.ensures }

pub returns-in_err-value-clause-stopped : goal.returns-in_err-value-clause-stopped
returns-in_err-value-clause-stopped g c =
    let p = err_from_is_err_and c.from_residual-in_err-value.result c.from_residual-in_err-value.ensures.1 in
    rw (p.1, p.2)
    (inr (record {
      future = c.in_ok-future.future;
      waker = c.waker-waker.result;
      last = c.loop.poll;
      left = c.poll_closure.new.closure;
      before = c.loop.self;
      polled = c.loop.invariant.polled;
      stops = inl c.in_err-value.ensures.called;
    }))

pub returns-in_err-await_waker-clause-stopped : goal.returns-in_err-await_waker-clause-stopped
returns-in_err-await_waker-clause-stopped g c =
    let p = err_from_is_err_and c.from_residual-in_err-await_waker.result c.from_residual-in_err-await_waker.ensures.1 in
    rw (p.1, p.2)
    (inr (record {
      future = c.in_ok-future.future;
      waker = c.waker-waker.result;
      last = c.loop.poll;
      left = c.poll_closure.new.closure;
      before = c.loop.self;
      polled = c.loop.invariant.polled;
      stops = inr (inl (c.poll_closure.new.handle, rw c.in_default.is at c.in_ok-value.ensures.called, c.in_err-await_waker.ensures.stopped));
    }))

pub returns-in_err-finish_future-clause-stopped : goal.returns-in_err-finish_future-clause-stopped
returns-in_err-finish_future-clause-stopped g c =
    let p = err_from_is_err_and c.from_residual-in_err-finish_future.result c.from_residual-in_err-finish_future.ensures.1 in
    rw (p.1, p.2)
    (inr (record {
      future = c.in_ok-future.future;
      waker = c.waker-waker.result;
      last = c.loop.poll;
      left = c.poll_closure.new.closure;
      before = c.loop.self;
      polled = c.loop.invariant.polled;
      stops = inr (inr (c.poll_closure.new.handle, c.in-Some.value, rw c.in-Some.is at c.in_ok-value.ensures.called, c.in_err-finish_future.ensures.stopped));
    }))

pub returns-in-Some-clause-drives : goal.returns-in-Some-clause-drives
returns-in-Some-clause-drives g c = record {
  future = c.in_ok-future.future;
  waker = c.waker-waker.result;
  last = c.loop.poll;
  left = c.poll_closure.new.closure;
  before = c.loop.self;
  ready = c.poll_closure.new.handle;
  polled = c.loop.invariant.polled;
  answers = rw c.in-Some.is at c.in_ok-value.ensures.called;
  ended = record { told = c.in_ok-finish_future.ensures.tells; thread = c.finish_future.ensures.thread };
}

pub loop-preserved : goal.loop-preserved
loop-preserved g c = record {
  callable = c.poll_closure.ensures.again;
  polled =
      polled_again c.loop.poll c.poll_closure.new.closure c.loop.self c.poll_closure.new.handle c.await_waker.new.self c.loop.invariant.polled
      (rw c.in_default.is at c.in_ok-value.ensures.called) (record { told = c.in_ok-await_waker.ensures.tells; thread = c.await_waker.ensures.thread });
}
