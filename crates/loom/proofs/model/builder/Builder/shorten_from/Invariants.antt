use Rattle.std.proofs.Common.{◌≡◌}
use Rattle.loom_engine.specs.Runs.Body.{runs}
use Rattle.loom_engine.specs.Trees.Meeting.{whole_search}
use Rattle.loom.specs.Model.Settings.{explores}
use Rattle.loom.specs.Model.Shorter.{ReplaysTo}
use Rattle.loom.proofs.model.builder.Builder.shorten_from.Given as goal

-- the shortest run so far fails so
abbrev pub invariant-runs : goal.invariant-runs
invariant-runs g l = record {
  fails : ReplaysTo l.self.max_branches (runs g.B.Body.next (explores l.self) l.self.max_threads l.self.max_steps l.body) l.shortest.choices.items l.kind;
  search : l.path.search ≡ whole_search l.self.max_branches;
  explores : l.path.explores ≡ explores l.self;
}
