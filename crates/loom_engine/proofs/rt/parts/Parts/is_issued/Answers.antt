use Rattle.std.proofs.Common.{◌≡◌, ◌<◌, ◌≤◌, ◌+◌, suc, [], refl, sym, ◌∙◌, subst, arith, length, take}
use Rattle.loom_engine.proofs.Parts.Keeping.{NoneIs, none_more, in_keys, not_in_keys}
use Rattle.loom_engine.proofs.Parts.Telling.{lists_tell}
use Rattle.loom_engine.proofs.rt.parts.Parts.is_issued.Goals as goal

pub returns-then-eq : goal.returns-then-eq
returns-then-eq c =
    let trunk = c.args.self.now.trunk in
    let low : c.loop-place.place < length trunk.items = omega (arith, c.loop-place-test.true, c.len-place-end.ensures, trunk.ok.0, c.loop-place.auto.place-end) in (
      (λ e. in_keys c.args.key.now trunk.items c.loop-place.place c.index.result.now [] c.index.ensures low
          (sym c.as_slice.ensures.value ∙ (lists_tell c.as_slice.result.now c.args.key.now).0 (sym c.eq.ensures ∙ c.if-eq.true))),
      λ i. refl,
    )

pub loop-place-preserved : goal.loop-place-preserved
loop-place-preserved c =
    let trunk = c.args.self.now.trunk in
    let low : c.loop-place.place < length trunk.items = omega (arith, c.loop-place-test.true, c.len-place-end.ensures, trunk.ok.0, c.loop-place.auto.place-end) in
    let next : suc c.loop-place.place ≡ c.loop-place.place + 1 = omega arith in
    subst (λ k. NoneIs c.args.key.now (take k trunk.items)) next
    (none_more c.args.key.now trunk.items c.loop-place.place c.index.result.now c.index.ensures low
    (λ h. let told = (lists_tell c.as_slice.result.now c.args.key.now).1 (c.as_slice.ensures.value ∙ h) in cc (told, c.eq.ensures, c.if-eq.false)) c.loop-place.invariant)

pub returns : goal.returns
returns c =
    let trunk = c.args.self.now.trunk in
    let all : length trunk.items ≤ c.loop-place.place = omega (arith, c.loop-place-test.false, c.len-place-end.ensures, trunk.ok.0, c.loop-place.auto.place-end) in
    ((λ e. absurd (cc e)), λ i. absurd (not_in_keys c.args.key.now trunk.items c.loop-place.place [] c.loop-place.invariant all (λ h. h) i))
