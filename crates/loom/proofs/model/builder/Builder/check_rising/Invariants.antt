use Rattle.std.proofs.Common.{◌≤◌, ◌-◌}
use Rattle.loom_engine.specs.Runs.Body.{runs}
use Rattle.loom.specs.Model.Settings.{explores}
use Rattle.loom.proofs.ModelLemmas.Bounds.{AreComplete}
use Rattle.loom.proofs.model.builder.Builder.check_rising.Given as goal

-- the checks with lower bounds were complete
abbrev pub invariant-loop-report : goal.invariant-loop-report
invariant-loop-report g l = record {
  within : l.bound ≤ l.up_to;
  lower : AreComplete l.self (runs g.B.Body.next (explores l.self) l.self.max_threads l.self.max_steps l.body) l.bound;
}

abbrev pub decreases-loop-report : goal.decreases-loop-report
decreases-loop-report g l = l.up_to - l.bound
