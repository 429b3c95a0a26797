use Rattle.std.proofs.Common.{◌≡◌}
use Rattle.loom_engine.specs.Path.Drawn.{IsDrawn, MakesMore}
use Rattle.loom_engine.specs.Path.Route.{IsSame}
use Rattle.loom_engine.proofs.Execution.Drawing.{IsLeftDrawn}
use Rattle.loom_engine.proofs.rt.execution.drawing.schedule.Given as goal

-- the schedules that are left end as all do
abbrev pub invariant-passes : goal.invariant-passes
invariant-passes g l = record {
  left : IsLeftDrawn l.fn.more l.fn.run l.fn.path l.left l.run l.path;
  made : MakesMore l.fn.path l.path;
  drawn : IsDrawn l.path;
  same : IsSame l.fn.path l.path;
  steps : l.run.state.steps_left ≡ l.fn.run.state.steps_left;
}

-- each branch point leaves room for one less
abbrev pub decreases-passes : goal.decreases-passes
decreases-passes g l = l.left
