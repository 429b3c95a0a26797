use Rattle.std.proofs.Common.{◌≡◌, ◌<◌, List, length, Some, sym, subst, arith}
use Rattle.std.specs.Prelude.{slice_get}
use Rattle.loom_engine.specs.declared.rt.path.node.Node.{Node}
use Rattle.loom_engine.specs.declared.rt.path.node.Node.TheVariants as node
use Rattle.loom_engine.specs.declared.rt.path.node.Schedule.{Schedule}
use Rattle.loom_engine.specs.Path.Nodes.{active_thread}
use Rattle.loom_engine.specs.Path.Words.{nodes_in}
use Rattle.loom_engine.proofs.Path.Words.{laid_nodes, laid_schedule}
use Rattle.loom_engine.proofs.rt.path.list.NodeList.active.Goals as goal

pub index-requires : goal.index-requires
index-requires c =
    let ws = c.self.inside.words in
    let ps = c.self.inside.places in
    let h : c.args.place < length (nodes_in ws.items ps.items) = subst (λ (l : List Node). c.args.place < length l) (sym c.self.view_is) c.requires in
    omega (arith, h, laid_nodes ws.items ps.items c.self.invariant, ws.ok.0)

pub returns-clause-lowest : goal.returns-clause-lowest
returns-clause-lowest c = λ n there.
    let ws = c.self.inside.words.items in
    let ps = c.self.inside.places.items in
    let h : c.args.place < length (nodes_in ws ps) = subst (λ (l : List Node). c.args.place < length l) (sym c.self.view_is) c.requires in
    let within : c.args.place < length ws = omega (arith, h, laid_nodes ws ps c.self.invariant) in
    let stands : slice_get (nodes_in ws ps) c.args.place ≡ Some (node.Schedule n) =
    subst (λ (l : List Node). slice_get l c.args.place ≡ Some (node.Schedule n)) (sym c.self.view_is) there in
    laid_schedule ws ps c.args.place c.index.result.now n
    (λ (s : Schedule). c.active.result ≡ active_thread s.statuses)
    c.self.invariant within c.index.ensures stands (λ p. c.active.ensures.lowest)
