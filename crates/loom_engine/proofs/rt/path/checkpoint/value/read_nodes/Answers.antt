use Rattle.std.proofs.Common.{◌≡◌, ◌<◌, length, get_or, inr, Some, refl, sym, ap, ◌∙◌, arith}
use Rattle.serde_json.specs.View.{view}
use Rattle.loom_engine.specs.Checkpoint.Reader.{node_of}
use Rattle.loom_engine.proofs.Checkpoint.Each.{each-none, each-more}
use Rattle.loom_engine.proofs.rt.path.checkpoint.value.read_nodes.Goals as goal

pub returns-in-None-clause-err : goal.returns-in-None-clause-err
returns-in-None-clause-err c =
    let xs = c.args.items.now.items in
    let below : c.loop-item.item-index < length xs = omega (arith, c.deref-item-items.ensures.len, c.args.items.now.ok.0) in
    let at : c.item-item.result ≡ get_or xs c.loop-item.item-index c.item-item.result = rw (← c.deref-item-items.ensures.value) c.item-item.is in
    inr (refl, each-none node_of view xs c.loop-item.item-index c.item-item.result below at (sym c.in-None.ensures))

pub loop-item-preserved : goal.loop-item-preserved
loop-item-preserved c =
    let xs = c.args.items.now.items in
    let below : c.loop-item.item-index < length xs = omega (arith, c.deref-item-items.ensures.len, c.args.items.now.ok.0) in
    let at : c.item-item.result ≡ get_or xs c.loop-item.item-index c.item-item.result = rw (← c.deref-item-items.ensures.value) c.item-item.is in
    each-more node_of view xs c.loop-item.item-index c.item-item.result c.loop-item.nodes.items c.in-Some.node below at c.loop-item.invariant (sym c.in-Some.ensures)
    ∙ ap Some (sym c.in_default.ensures.items)
