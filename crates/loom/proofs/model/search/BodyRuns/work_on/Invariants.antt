use Rattle.std.proofs.Common.{◌≡◌, ◌⊎◌, ◌<◌, ◌-◌}
use Rattle.loom_engine.specs.Runs.Body.{runs}
use Rattle.loom_engine.proofs.Runs.Bodies.{run_tree_law}
use Rattle.loom.specs.Model.Settings.{explores}
use Rattle.loom.proofs.ModelLemmas.Parts.{IsWorking}
use Rattle.loom.proofs.model.search.BodyRuns.work_on.Given as goal

-- runs of the part were made, fewer than the slice has, and the visitor was given them
abbrev pub invariant-slice : goal.invariant-slice
invariant-slice g l = record {
  working : IsWorking l.self.builder.now (runs g.B.Body.next (explores l.self.builder.now) l.self.builder.now.max_threads l.self.builder.now.max_steps l.self.body.now)
      (run_tree_law g.B.Body.next (explores l.self.builder.now) l.self.builder.now.max_threads l.self.builder.now.max_steps l.self.body.now) l.fn.part g.V.Visitor.takes l.fn.visitor l.path l.visitor l.runs;
  within : (l.runs ≡ 0) ⊎ (l.runs < l.slice.runs);
  same : l.part ≡ l.fn.part;
}

abbrev pub decreases-slice : goal.decreases-slice
decreases-slice g l = l.slice.runs - l.runs
