use Rattle.std.proofs.Common.{◌≡◌, ◌<◌, length, get_or, inr, Some, refl, sym, ap, ◌∙◌, arith}
use Rattle.serde_json.specs.View.{view}
use Rattle.loom_engine.specs.Parts.Texts.Reader.{choice_at, choices_at}
use Rattle.loom_engine.proofs.Checkpoint.Each.{each-none, each-more}
use Rattle.loom_engine.proofs.rt.parts.read.read_key.Goals as goal

pub returns-in-None-clause-err : goal.returns-in-None-clause-err
returns-in-None-clause-err c = inr (refl, ap choices_at c.in-None.ensures)

pub returns-in-None-read_choice-clause-err : goal.returns-in-None-read_choice-clause-err
returns-in-None-read_choice-clause-err c =
    let xs = c.in-Some.items.now.items in
    let below : c.loop-item.item-index < length xs = omega (arith, c.deref-item-items.ensures.len, c.in-Some.items.now.ok.0) in
    let at : c.item-item.result ≡ get_or xs c.loop-item.item-index c.item-item.result = rw (← c.deref-item-items.ensures.value) c.item-item.is in
    inr (refl, ap choices_at c.in-Some.ensures ∙ each-none choice_at view xs c.loop-item.item-index c.item-item.result below at (sym c.in-None-read_choice.ensures))

pub loop-item-preserved : goal.loop-item-preserved
loop-item-preserved c =
    let xs = c.deref-item-items.result.now in
    let below : c.loop-item.item-index < length c.deref-item-items.result.now = omega (arith, c.loop-item-test.true, c.loop-item.auto.item-index-end) in
    each-more choice_at view xs c.loop-item.item-index c.item-item.result c.loop-item.key.items c.in-Some-read_choice.choice below c.item-item.is c.loop-item.invariant (sym c.in-Some-read_choice.ensures)
    ∙ ap Some (sym c.in_default.ensures.items)
