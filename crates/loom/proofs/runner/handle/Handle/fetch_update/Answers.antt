use Rattle.std.proofs.Common.{◌∙◌, inr, of_calls}
use Rattle.std.proofs.lemmas.Result.{err_from_is_err_and}
use Rattle.loom.specs.Runner.Forms.{fetched, fetched_again}
use Rattle.loom.proofs.runner.handle.Handle.fetch_update.Goals as goal

pub loop-init : goal.loop-init
loop-init g c = record { callable = c.requires; thread = c.load.ensures.thread; fetches = fetched c.in_ok-read.read c.load.new.self.told c.in_ok-read.ensures.tells }

pub returns-in_err-before-clause-stopped : goal.returns-in_err-before-clause-stopped
returns-in_err-before-clause-stopped g c =
    let p = err_from_is_err_and c.from_residual-in_err-before.result c.from_residual-in_err-before.ensures.1 in
    rw (p.1, p.2)
    (inr (record {
      last = c.loop.next;
      left = c.next.new.self;
      read = c.loop.read;
      next = c.in-Some.new;
      mid = c.loop.self.told;
      fetches = c.loop.invariant.fetches;
      makes = c.in-Some.ensures;
      stops = c.in_err-before.ensures.stopped;
    }))

pub returns-in-Ok-clause-updates : goal.returns-in-Ok-clause-updates
returns-in-Ok-clause-updates g c = record {
  last = c.loop.next;
  left = c.next.new.self;
  read = c.loop.read;
  mid = c.loop.self.told;
  fetches = c.loop.invariant.fetches;
  settles = (c.in-Some.new, c.in-Some.ensures, rw c.in-Ok.is at c.in_ok-before.ensures.tells);
}

pub loop-preserved : goal.loop-preserved
loop-preserved g c = record {
  callable = search of_calls;
  thread = c.compare_exchange.ensures.thread ∙ c.loop.invariant.thread;
  fetches =
      fetched_again c.loop.next c.next.new.self c.loop.read c.in-Some.new c.in-Err.other c.loop.self.told c.compare_exchange.new.self.told c.loop.invariant.fetches
      c.in-Some.ensures (rw c.in-Err.is at c.in_ok-before.ensures.tells);
}
