use Rattle.std.proofs.Common.{◌≡◌, ◌<◌, length, get_or, inr, sym, subst, arith, List}
use Rattle.serde_json.specs.View.{view}
use Rattle.loom_engine.specs.Path.Route.{settings}
use Rattle.loom_engine.specs.Parts.Texts.Accepted.{AreTrueParts}
use Rattle.loom_engine.specs.Parts.Texts.Grammar.{item_data}
use Rattle.loom_engine.specs.declared.rt.parts.Part.{Part as Kept}
use Rattle.loom_engine.proofs.Parts.Texts.Items.{among_at, true_more, written_more}
use Rattle.loom_engine.proofs.rt.parts.read.read_items.Goals as goal

pub returns-in-Err-clause-err : goal.returns-in-Err-clause-err
returns-in-Err-clause-err c =
    let xs = c.args.items.now.items in
    let below : c.loop-item.item-index < length xs = omega (arith, c.deref-item-items.ensures.len, c.args.items.now.ok.0) in
    let at : c.item-item.result ≡ get_or xs c.loop-item.item-index c.item-item.result = rw (← c.deref-item-items.ensures.value) c.item-item.is in
    inr (view c.item-item.result, among_at view xs c.loop-item.item-index c.item-item.result below at, c.in-Err.ensures.err)

pub loop-item-preserved : goal.loop-item-preserved
loop-item-preserved c =
    let xs = c.args.items.now.items in
    let below : c.loop-item.item-index < length xs = omega (arith, c.deref-item-items.ensures.len, c.args.items.now.ok.0) in
    let at : c.item-item.result ≡ get_or xs c.loop-item.item-index c.item-item.result = rw (← c.deref-item-items.ensures.value) c.item-item.is in
    let read = c.in-Ok.ensures.ok in
    let pushed = c.in_default.ensures.items in (
      written_more view item_data xs c.loop-item.item-index c.item-item.result c.loop-item.list.items c.push.new.self.items c.in-Ok.part below at c.loop-item.invariant.0 read.value pushed,
      subst (λ (l : List Kept). AreTrueParts (settings c.args.search) c.args.search.explores l) (sym pushed)
          (true_more (settings c.args.search) c.args.search.explores c.loop-item.list.items c.in-Ok.part c.loop-item.invariant.1 read.true_part),
    )
