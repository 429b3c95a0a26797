use Rattle.loom.specs.Runner.Alike.{Shares}
use Rattle.loom.proofs.runner.last_run.shared_choices.Given as goal

-- so many are shared so far
abbrev pub invariant-loop-count : goal.invariant-loop-count
invariant-loop-count l = Shares l.count l.one l.other
