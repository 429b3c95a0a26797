use Rattle.std.proofs.Common.{◌<◌, List, length, sym, subst, arith}
use Rattle.loom_engine.specs.declared.rt.path.node.Node.{Node}
use Rattle.loom_engine.specs.Path.Words.{nodes_in}
use Rattle.loom_engine.proofs.Path.Words.{laid_nodes, laid_choice}
use Rattle.loom_engine.proofs.rt.path.list.NodeList.choice.Goals as goal

pub index-requires : goal.index-requires
index-requires c =
    let ws = c.self.inside.words in
    let ps = c.self.inside.places in
    let h : c.args.place < length (nodes_in ws.items ps.items) = subst (λ (l : List Node). c.args.place < length l) (sym c.self.view_is) c.requires in
    omega (arith, h, laid_nodes ws.items ps.items c.self.invariant, ws.ok.0)

pub returns : goal.returns
returns c =
    let ws = c.self.inside.words.items in
    let ps = c.self.inside.places.items in
    let h : c.args.place < length (nodes_in ws ps) = subst (λ (l : List Node). c.args.place < length l) (sym c.self.view_is) c.requires in
    let within : c.args.place < length ws = omega (arith, h, laid_nodes ws ps c.self.invariant) in
    rw (← c.self.view_is) (laid_choice ws ps c.args.place c.index.result.now c.choice.result c.self.invariant within c.index.ensures c.choice.ensures)
