use Rattle.std.proofs.Common.{◌≡◌, ◌<◌, ◌≤◌, sym, ap, ◌∙◌, arith, length, below_more}
use Rattle.std.specs.Prelude.{slice_index_or}
use Rattle.loom_engine.specs.declared.rt.parts.Part.{Part as Kept}
use Rattle.loom_engine.proofs.Parts.Keeping.{stands_or, got_or, within_list}
use Rattle.loom_engine.proofs.Parts.Telling.{lists_tell}
use Rattle.loom_engine.proofs.rt.parts.Parts.place_of.Goals as goal

pub returns-then-eq-clause-some : goal.returns-then-eq-clause-some
returns-then-eq-clause-some c =
    let list = c.args.self.now.list in
    let low : c.loop-number.number < length list.items = omega (arith, c.loop-number-test.true, c.len-number-end.ensures, list.ok.0, c.loop-number.auto.number-end) in (
      slice_index_or list.items c.loop-number.number c.index.result.now,
      got_or list.items c.loop-number.number c.index.result.now low,
      ap (λ (q : Kept). q.base.items) (sym c.index.ensures) ∙ sym c.as_slice.ensures.value ∙ (lists_tell c.as_slice.result.now c.args.base.now).0 (sym c.eq.ensures ∙ c.if-eq.true),
    )

pub loop-number-preserved : goal.loop-number-preserved
loop-number-preserved c =
    let list = c.args.self.now.list in
    let low : c.loop-number.number < length list.items = omega (arith, c.loop-number-test.true, c.len-number-end.ensures, list.ok.0, c.loop-number.auto.number-end) in
    below_more _ _ c.loop-number.invariant
    (λ h.
    let same : c.index.result.now ≡ h.0 = c.index.ensures ∙ stands_or list.items c.loop-number.number h.0 c.index.result.now h.1 in
    let told = (lists_tell c.as_slice.result.now c.args.base.now).1 (c.as_slice.ensures.value ∙ ap (λ (q : Kept). q.base.items) same ∙ h.2) in
    cc (told, c.eq.ensures, c.if-eq.false))

pub returns-clause-none : goal.returns-clause-none
returns-clause-none c = λ e number h.
    let list = c.args.self.now.list in
    let all : length list.items ≤ c.loop-number.number = omega (arith, c.loop-number-test.false, c.len-number-end.ensures, list.ok.0, c.loop-number.auto.number-end) in
    c.loop-number.invariant number (omega (arith, all, within_list list.items number h.0 h.1)) h
