use Rattle.std.proofs.Common.{◌≡◌}
use Rattle.loom_engine.specs.Runs.Body.{runs}
use Rattle.loom_engine.specs.Trees.Meeting.{whole_search}
use Rattle.loom.specs.Model.Settings.{explores}
use Rattle.loom.proofs.ModelLemmas.Walking.{IsWalking}
use Rattle.loom.proofs.model.builder.Builder.make_walk.Given as goal

-- of the runs so far some were cut; the visitor was given the others, and their hashes were noted
abbrev pub invariant-walking : goal.invariant-walking
invariant-walking g l = record {
  walking : IsWalking g.V.Visitor.takes l.fn.visitor l.self (runs g.B.Body.next (explores l.self) l.self.max_threads l.self.max_steps l.body) l.visitor l.different l.number l.cut;
  search : l.path.search ≡ whole_search l.self.max_branches;
  explores : l.path.explores ≡ explores l.self;
}
