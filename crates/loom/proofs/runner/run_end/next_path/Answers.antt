use Rattle.loom.proofs.runner.run_end.next_path.Goals as goal

pub returns-then-step : goal.returns-then-step
returns-then-step c = (rw c.if-step.true at c.step.ensures.steps, c.step.ensures.rest)
