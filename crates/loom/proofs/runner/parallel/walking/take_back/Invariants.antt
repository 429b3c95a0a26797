use Rattle.std.proofs.Common.{◌≡◌, ◌≤◌, ◌+◌, List, length}
use Rattle.std.specs.Vec.Iter.{into_iter_items, into_iter_len}
use Rattle.loom_objects.specs.Tree.Tree.{Tree}
use Rattle.loom.specs.declared.model.builder.Builder.{Builder}
use Rattle.loom.specs.declared.runner.parallel.walking.Leg.{Leg}
use Rattle.loom.specs.Runner.Legs.{AreMade, AreNew, HasCome, asked_of, made_of}
use Rattle.loom.proofs.RunnerLemmas.Legs.{IsTaking}
use Rattle.loom.proofs.runner.parallel.walking.take_back.Given as goal

-- some of the legs were taken back
abbrev pub invariant-back : goal.invariant-back
invariant-back g l = record {
  length : into_iter_len l.left ≡ length (into_iter_items l.left);
  fits : l.gone.runs + l.gone.cut + made_of (into_iter_items l.left) ≤ l.fn.gone.runs + l.fn.gone.cut + made_of l.fn.done.items;
  taking : (b : Builder) (tree : Tree _) (first : _) (legs : List (Leg _)) → AreNew g.G.Visitors.is_new legs → AreMade g.V.Visitor.takes b tree legs l.fn.done.items
      → HasCome g.V.Visitor.takes g.G.Visitors.is_new g.G.Visitors.joins first l.fn.visitors b tree l.fn.gone
      → IsTaking g.V.Visitor.takes g.G.Visitors.is_new g.G.Visitors.joins first b tree (l.fn.gone.runs + l.fn.gone.cut + asked_of legs) l.visitors l.gone (into_iter_items l.left);
}

abbrev pub decreases-back : goal.decreases-back
decreases-back g l = into_iter_len l.left
