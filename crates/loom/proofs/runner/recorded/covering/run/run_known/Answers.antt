use Rattle.loom.proofs.runner.recorded.covering.run.run_known.Goals as goal

pub returns-in-Ok-Some-clause-along : goal.returns-in-Ok-Some-clause-along
returns-in-Ok-Some-clause-along g c = λ does words z are. rw c.in-Ok-Some.field-0-is at (c.in-Ok-Some.ensures.along does words z are)
