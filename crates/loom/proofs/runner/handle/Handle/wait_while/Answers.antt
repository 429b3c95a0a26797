use Rattle.std.proofs.Common.{◌∙◌, refl, of_calls}
use Rattle.std.proofs.lemmas.Result.{err_from_is_err_and}
use Rattle.loom.specs.Runner.Forms.{awake, slept_again}
use Rattle.loom.proofs.runner.handle.Handle.wait_while.Goals as goal

pub loop-init : goal.loop-init
loop-init g c = record { callable = c.requires; thread = refl; slept = awake }

pub returns-then-not-sleeps-clause-wakes : goal.returns-then-not-sleeps-clause-wakes
returns-then-not-sleeps-clause-wakes g c = record {
  last = c.loop.sleeps;
  left = c.sleeps.new.self;
  slept = c.loop.invariant.slept;
  wakes = record { shown = _; shows = refl; called = c.if-not-sleeps.ensures };
}

pub returns-in_err-held-clause-stopped : goal.returns-in_err-held-clause-stopped
returns-in_err-held-clause-stopped g c =
    let p = err_from_is_err_and c.from_residual.result c.from_residual.ensures.1 in
    rw (p.1, p.2)
    (record {
      last = c.loop.sleeps;
      left = c.sleeps.new.self;
      held = c.loop.held;
      mid = c.loop.self.told;
      slept = c.loop.invariant.slept;
      sleeps = record { shown = _; shows = refl; called = c.if-not-sleeps.ensures };
      stops = c.in_err-held.ensures.stopped;
    })

pub loop-preserved : goal.loop-preserved
loop-preserved g c = record {
  callable = search of_calls;
  thread = c.wait.ensures.thread ∙ c.loop.invariant.thread;
  slept =
      slept_again c.loop.sleeps c.sleeps.new.self c.loop.held c.in_ok-held.held c.loop.self.told c.wait.new.self.told c.loop.invariant.slept
      (record { shown = _; shows = refl; called = c.if-not-sleeps.ensures }) c.in_ok-held.ensures.tells;
}
