use Rattle.std.proofs.Common.{◌≤◌, ◌+◌, ◌*◌, ℕ, List, length}
use Rattle.loom_objects.specs.declared.choice.Choice.{Choice}
use Rattle.loom_objects.specs.Tree.Tree.{Tree}
use Rattle.loom_engine.specs.Walk.Lists.{IsOnce}
use Rattle.loom_engine.specs.Runs.Sound.{IsRunTree}
use Rattle.loom_engine.specs.Parts.Keeping.{IsAt}
use Rattle.loom.specs.declared.model.builder.Builder.{Builder}
use Rattle.loom.specs.Model.Fresh.{machine}
use Rattle.loom.specs.Model.Settings.{search_of}
use Rattle.loom.specs.Runner.Workers.{AreAtMost, AreOut, bases}
use Rattle.loom.proofs.RunnerLemmas.Turns.{IsTaking}
use Rattle.loom.proofs.runner.parallel.round.take_back.Given as goal

-- some of the parts are given back, and the others are out
abbrev pub invariant-back : goal.invariant-back
invariant-back g l = record {
  within : (most : ℕ) → AreAtMost most l.fn.done.items → AreAtMost most l.done.items × (l.turn.runs + length l.done.items * most ≤ length l.fn.done.items * most);
  taking : (b : Builder) (tree : Tree _) (made : List (List Choice)) → IsRunTree tree → IsAt (machine (search_of b) tree) made l.fn.parts
      → AreOut g.V.Visitor.takes g.G.Visitors.is_new b tree l.fn.parts.list.items l.fn.done.items → IsOnce (bases l.fn.done.items)
      → IsTaking g.V.Visitor.takes g.G.Visitors.is_new g.G.Visitors.joins b tree made l.fn.visitors l.parts l.visitors l.turn l.done.items;
}

abbrev pub decreases-back : goal.decreases-back
decreases-back g l = length l.done.items
