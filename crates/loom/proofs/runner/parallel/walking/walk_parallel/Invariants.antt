use Rattle.std.proofs.Common.{◌≤◌, ◌+◌, ◌-◌}
use Rattle.loom_engine.specs.Runs.Body.{runs}
use Rattle.loom.specs.Model.Settings.{explores}
use Rattle.loom.specs.Model.Walking.{asked_runs}
use Rattle.loom.specs.Runner.Legs.{HasCome}
use Rattle.loom.proofs.runner.parallel.walking.walk_parallel.Given as goal

-- the walk has come so far
abbrev pub invariant-turns : goal.invariant-turns
invariant-turns g l = record {
  within : l.gone.runs + l.gone.cut ≤ asked_runs l.walk;
  come : HasCome g.V.Visitor.takes g.G.Visitors.is_new g.G.Visitors.joins l.fn.visitors l.visitors l.builder (runs g.B.Body.next (explores l.builder) l.builder.max_threads l.builder.max_steps l.body) l.gone;
}

abbrev pub decreases-turns : goal.decreases-turns
decreases-turns g l = asked_runs l.walk - (l.gone.runs + l.gone.cut)
