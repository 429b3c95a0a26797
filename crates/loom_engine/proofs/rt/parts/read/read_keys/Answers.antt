use Rattle.std.proofs.Common.{◌≡◌, ◌<◌, ◌∷◌, [], length, map, get_or, inl, inr, Some, sym, ap, ◌∙◌, arith}
use Rattle.std.proofs.lemmas.List.{map-append}
use Rattle.serde_json.specs.View.{view}
use Rattle.loom_engine.specs.Parts.Keeping.{choices_of}
use Rattle.loom_engine.specs.Parts.Texts.Reader.{key_at}
use Rattle.loom_engine.proofs.Checkpoint.Each.{each-none, each-more}
use Rattle.loom_engine.proofs.rt.parts.read.read_keys.Goals as goal

pub returns-in-Err-clause-err : goal.returns-in-Err-clause-err
returns-in-Err-clause-err c =
    let xs = c.args.items.now.items in
    let below : c.loop-item.item-index < length xs = omega (arith, c.deref-item-items.ensures.len, c.args.items.now.ok.0) in
    let at : c.item-item.result ≡ get_or xs c.loop-item.item-index c.item-item.result = rw (← c.deref-item-items.ensures.value) c.item-item.is in
    elim c.in-Err.ensures.err [ inl m ↦ inl m | inr n ↦ inr (n.0, each-none key_at view xs c.loop-item.item-index c.item-item.result below at n.1) ]

pub loop-item-preserved : goal.loop-item-preserved
loop-item-preserved c =
    let xs = c.args.items.now.items in
    let below : c.loop-item.item-index < length xs = omega (arith, c.deref-item-items.ensures.len, c.args.items.now.ok.0) in
    let at : c.item-item.result ≡ get_or xs c.loop-item.item-index c.item-item.result = rw (← c.deref-item-items.ensures.value) c.item-item.is in
    each-more key_at view xs c.loop-item.item-index c.item-item.result (map choices_of c.loop-item.trunk.items) c.in-Ok.key.items below at c.loop-item.invariant c.in-Ok.ensures.ok
    ∙ ap Some (sym (ap (map choices_of) c.in_default.ensures.items ∙ map-append choices_of c.loop-item.trunk.items (c.in-Ok.key ∷ [])))
