use Rattle.std.proofs.Common.{◌≡◌, List, [], ◌∷◌, ◌++◌, ap, ap₂, sym, ◌∙◌}
use Rattle.loom_engine.specs.declared.rt.path.node.Node.{Node}
use Rattle.loom_engine.specs.Path.Words.{node_in, word_of}
use Rattle.loom_engine.proofs.Path.Words.{laid_more, nodes_more}
use Rattle.loom_engine.proofs.rt.path.list.NodeList.push.Goals as goal

pub invariant_of-self-in_default : goal.invariant_of-self-in_default
invariant_of-self-in_default c =
    let same : node_in c.of_node.result c.places_of.result ≡ c.args.node.now = ap (node_in c.of_node.result) c.places_of.ensures ∙ c.of_node.ensures.read in
    rw (c.in_ok-push.ensures.items, c.in_default.ensures.items)
    (laid_more c.self.inside.words.items c.self.inside.places.items c.of_node.result c.places_of.result c.self.invariant (ap word_of same ∙ sym c.of_node.ensures.laid_out))

pub returns-clause-made : goal.returns-clause-made
returns-clause-made c =
    let same : node_in c.of_node.result c.places_of.result ≡ c.args.node.now = ap (node_in c.of_node.result) c.places_of.ensures ∙ c.of_node.ensures.read in
    rw (c.in_ok-push.ensures.items, c.in_default.ensures.items)
    (nodes_more c.self.inside.words.items c.self.inside.places.items c.of_node.result c.places_of.result c.self.invariant ∙ ap₂ (λ (l : List Node) (n : Node). l ++ n ∷ []) c.self.view_is same)
