use Rattle.std.proofs.Common.{rules}
use Rattle.std.proofs.lemmas.Bool.Decides.{Decides-at}
use Rattle.loom_engine.specs.Path.Same.{same_routes_tell}
use Rattle.loom_engine.proofs.Path.Sameness.{words_tell}
use Rattle.loom_engine.proofs.rt.path.PathPartialEq.eq.Goals as goal
use Rattle.loom_engine.proofs.rt.path.PathPartialEq.eq.Goals.{then-eq-2, else-eq-2}

pub returns-then-has_words_of : goal.returns-then-has_words_of
returns-then-has_words_of c = elim c.if-eq-2.branch [
  | then-eq-2 w ↦ (
      let nodes = words_tell w.has_words_of.result c.self.inside.nodes.list c.other.inside.nodes.list c.self.invariant.3 c.other.invariant.3 w.has_words_of.ensures.words w.has_words_of.ensures.alike in
      Decides-at c.eq-then-has_words_of.result _ (search (rules, nodes)) (same_routes_tell c.args.self.now c.args.other.now))
  | else-eq-2 w ↦ absurd (cc (w.value-is, c.if-has_words_of.true))
]
