use Rattle.std.proofs.Common.{◌<◌, List, length, sym, subst, arith}
use Rattle.loom_engine.specs.declared.rt.path.node.Node.{Node}
use Rattle.loom_engine.specs.Path.Nodes.{AreWell}
use Rattle.loom_engine.specs.Path.Words.{nodes_in}
use Rattle.loom_engine.proofs.Path.Words.{laid_nodes, laid_well, laid_done}
use Rattle.loom_engine.proofs.rt.path.list.NodeList.is_done.Goals as goal

pub index-requires : goal.index-requires
index-requires c =
    let ws = c.self.inside.words in
    let ps = c.self.inside.places in
    let h : c.args.place < length (nodes_in ws.items ps.items) = subst (λ (l : List Node). c.args.place < length l) (sym c.self.view_is) c.requires.within in
    omega (arith, h, laid_nodes ws.items ps.items c.self.invariant, ws.ok.0)

pub is_done-requires : goal.is_done-requires
is_done-requires c =
    let ws = c.self.inside.words.items in
    let ps = c.self.inside.places.items in
    let h : c.args.place < length (nodes_in ws ps) = subst (λ (l : List Node). c.args.place < length l) (sym c.self.view_is) c.requires.within in
    let within : c.args.place < length ws = omega (arith, h, laid_nodes ws ps c.self.invariant) in
    laid_well ws ps c.args.place c.index.result.now c.self.invariant within c.index.ensures (subst AreWell (sym c.self.view_is) c.requires.well)

pub returns : goal.returns
returns c = λ done.
    let ws = c.self.inside.words.items in
    let ps = c.self.inside.places.items in
    let h : c.args.place < length (nodes_in ws ps) = subst (λ (l : List Node). c.args.place < length l) (sym c.self.view_is) c.requires.within in
    let within : c.args.place < length ws = omega (arith, h, laid_nodes ws ps c.self.invariant) in
    rw (← c.self.view_is) (laid_done ws ps c.args.place c.index.result.now c.self.invariant within c.index.ensures (c.is_done.ensures done))
