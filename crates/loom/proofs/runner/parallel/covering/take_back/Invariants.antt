use Rattle.std.proofs.Common.{◌≤◌, ◌+◌, ◌*◌, ℕ, List, length}
use Rattle.loom_objects.specs.declared.choice.Choice.{Choice}
use Rattle.loom_engine.specs.Walk.Lists.{IsOnce}
use Rattle.loom.specs.declared.model.builder.Builder.{Builder}
use Rattle.loom.specs.Model.CoverParts.{HaveSpreadTo}
use Rattle.loom.specs.Runner.Covering.{AreAtMost, AreOut, bases}
use Rattle.loom.proofs.RunnerLemmas.Covering.{IsTaking}
use Rattle.loom.proofs.runner.parallel.covering.take_back.Given as goal

-- some of the parts are given back, and the others are out
abbrev pub invariant-back : goal.invariant-back
invariant-back g l = record {
  within : (most : ℕ) → AreAtMost most l.fn.done.items → AreAtMost most l.done.items × ((l.turn.runs + l.turn.met) + length l.done.items * most ≤ length l.fn.done.items * most);
  taking : (b : Builder) (body : _) (given : List (List Choice × _)) (start : HaveSpreadTo b g.B.Body.next body l.fn.parts l.fn.states given)
      → AreOut g.V.Visitor.takes g.G.Visitors.is_new b g.B.Body.next body l.fn.states l.fn.parts.list.items l.fn.done.items → IsOnce (bases l.fn.done.items)
      → IsTaking g.V.Visitor.takes g.G.Visitors.is_new g.G.Visitors.joins b g.B.Body.next body given l.fn.visitors l.fn.parts l.fn.states start l.parts l.visitors l.states l.turn l.done.items;
}

abbrev pub decreases-back : goal.decreases-back
decreases-back g l = length l.done.items
