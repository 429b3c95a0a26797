use Rattle.loom_engine.proofs.Execution.Growing.{IsLeft}
use Rattle.loom_engine.proofs.rt.execution.schedule.Given as goal

-- the schedules that are left end as all do
abbrev pub invariant-passes : goal.invariant-passes
invariant-passes g l = IsLeft l.fn.more l.fn.run l.fn.path l.left l.run l.path

-- each branch point leaves room for one less
abbrev pub decreases-passes : goal.decreases-passes
decreases-passes g l = l.left
