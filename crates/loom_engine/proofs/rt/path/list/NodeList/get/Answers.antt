use Rattle.std.proofs.Common.{◌≡◌, ◌<◌, List, length, sym, subst, arith}
use Rattle.std.specs.Prelude.{slice_index_or}
use Rattle.loom_engine.specs.declared.rt.path.node.Node.{Node}
use Rattle.loom_engine.specs.Path.Words.{node_in, nodes_in}
use Rattle.loom_engine.proofs.Path.Words.{laid_length, laid_nodes, laid_got}
use Rattle.loom_engine.proofs.rt.path.list.NodeList.get.Goals as goal

pub index-requires : goal.index-requires
index-requires c =
    let ws = c.self.inside.words in
    let ps = c.self.inside.places in
    let h : c.args.place < length (nodes_in ws.items ps.items) = subst (λ (l : List Node). c.args.place < length l) (sym c.self.view_is) c.requires in
    omega (arith, h, laid_nodes ws.items ps.items c.self.invariant, ws.ok.0)

pub index-requires-2 : goal.index-requires-2
index-requires-2 c =
    let ws = c.self.inside.words in
    let ps = c.self.inside.places in
    let h : c.args.place < length (nodes_in ws.items ps.items) = subst (λ (l : List Node). c.args.place < length l) (sym c.self.view_is) c.requires in
    omega (arith, h, laid_nodes ws.items ps.items c.self.invariant, laid_length ws.items ps.items c.self.invariant, ps.ok.0)

pub returns : goal.returns
returns c =
    let ws = c.self.inside.words.items in
    let ps = c.self.inside.places.items in
    let w = c.index.result.now in
    let p = c.index-2.result.now in
    let h : c.args.place < length (nodes_in ws ps) = subst (λ (l : List Node). c.args.place < length l) (sym c.self.view_is) c.requires in
    let within : c.args.place < length ws = omega (arith, h, laid_nodes ws ps c.self.invariant) in
    subst (λ (n : Node). n ≡ slice_index_or c.args.self.now c.args.place n) (sym c.node.ensures)
    (subst (λ (l : List Node). node_in w p ≡ slice_index_or l c.args.place (node_in w p)) c.self.view_is (laid_got ws ps c.args.place w p c.self.invariant within c.index.ensures c.index-2.ensures))
