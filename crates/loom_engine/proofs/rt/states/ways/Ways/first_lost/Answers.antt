use Rattle.std.proofs.Common.{◌≡◌, length, ap, sym, ◌∙◌, subst, refl}
use Rattle.loom_engine.specs.Covering.Between.{AreClosed, AreReaching, IsFirstUnset}
use Rattle.loom_engine.proofs.Covering.Between.{first_lost}
use Rattle.loom_engine.proofs.Covering.Whole.{taken_back}
use Rattle.loom_engine.proofs.rt.states.ways.Ways.first_lost.Goals as goal

pub returns : goal.returns
returns c =
    let new = c.spread.new.set in
    let ways : c.as_slice.result.now ≡ c.args.self.now.ways = c.as_slice.ensures.value ∙ ap (λ t. t.ways) c.self.view_is in
    let counted : length c.deref_mut.result.now ≡ c.args.count = ap length c.deref_mut.ensures.value ∙ c.spreading.invariant.counted in
    let set : c.deref.result.now ≡ new = c.deref.ensures.value ∙ taken_back c.spreading.set.len new _ (c.spread.ensures.length ∙ c.deref_mut.ensures.len) in
    first_lost c.args.self.now.ways c.args.count new c.first_unset.result (c.spread.ensures.length ∙ counted)
    (subst (λ w. AreReaching w c.args.count new) ways
    (c.spread.ensures.reaching c.args.count counted (subst (λ w. AreReaching w c.args.count c.deref_mut.result.now) (sym ways) (subst (λ l. AreReaching c.args.self.now.ways c.args.count l) (sym c.deref_mut.ensures.value) c.spreading.invariant.reaching))))
    (subst (λ w. AreClosed new w) ways (c.if-not-spread.ensures.closed refl)) (subst (λ l. IsFirstUnset l c.first_unset.result) set c.first_unset.ensures)
