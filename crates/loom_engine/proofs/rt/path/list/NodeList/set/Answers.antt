use Rattle.std.proofs.Common.{◌≡◌, ◌<◌, List, length, slice_set, ap, ap₂, sym, ◌∙◌, subst, arith}
use Rattle.loom_engine.specs.declared.rt.path.node.Node.{Node}
use Rattle.loom_engine.specs.Path.Words.{node_in, nodes_in, word_of}
use Rattle.loom_engine.proofs.Path.Words.{laid_length, laid_nodes, laid_set, nodes_set}
use Rattle.loom_engine.proofs.rt.path.list.NodeList.set.Goals as goal

pub index_mut-requires : goal.index_mut-requires
index_mut-requires c =
    let ws = c.self.inside.words in
    let ps = c.self.inside.places in
    let h : c.args.place < length (nodes_in ws.items ps.items) = subst (λ (l : List Node). c.args.place < length l) (sym c.self.view_is) c.requires.within in
    omega (arith, h, laid_nodes ws.items ps.items c.self.invariant, ws.ok.0)

pub index_mut-requires-2 : goal.index_mut-requires-2
index_mut-requires-2 c =
    let ws = c.self.inside.words in
    let ps = c.self.inside.places in
    let h : c.args.place < length (nodes_in ws.items ps.items) = subst (λ (l : List Node). c.args.place < length l) (sym c.self.view_is) c.requires.within in
    omega (arith, h, laid_nodes ws.items ps.items c.self.invariant, laid_length ws.items ps.items c.self.invariant, ps.ok.0)

pub invariant_of-self : goal.invariant_of-self
invariant_of-self c =
    let same : node_in c.of_node.result c.places_of.result ≡ c.args.node.now = ap (node_in c.of_node.result) c.places_of.ensures ∙ c.of_node.ensures.read in
    laid_set c.self.inside.words.items c.self.inside.places.items c.args.place c.of_node.result c.places_of.result c.self.invariant (ap word_of same ∙ sym c.of_node.ensures.laid_out)

pub returns : goal.returns
returns c =
    let same : node_in c.of_node.result c.places_of.result ≡ c.args.node.now = ap (node_in c.of_node.result) c.places_of.ensures ∙ c.of_node.ensures.read in
    nodes_set c.self.inside.words.items c.self.inside.places.items c.args.place c.of_node.result c.places_of.result c.self.invariant
    ∙ ap₂ (λ (l : List Node) (n : Node). slice_set l c.args.place n) c.self.view_is same
