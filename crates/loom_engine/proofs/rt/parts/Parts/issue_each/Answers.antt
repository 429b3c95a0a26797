use Rattle.std.proofs.Common.{◌≡◌, ◌<◌, ◌+◌, suc, [], ◌∷◌, ◌++◌, drop, ap, sym, ◌∙◌, arith, length}
use Rattle.std.specs.Prelude.{slice_index_or, None}
use Rattle.loom_objects.specs.declared.choice.Choice.{Choice}
use Rattle.loom_objects.specs.declared.choice.Choice.TheVariants.{Thread}
use Rattle.loom_engine.specs.Parts.Keeping.{keys, issued_onto}
use Rattle.loom_engine.proofs.Parts.Keeping.{keys_snoc, drop_or}
use Rattle.loom_engine.proofs.rt.parts.Parts.issue_each.Goals as goal

pub loop-option-preserved : goal.loop-option-preserved
loop-option-preserved c =
    let low : c.loop-option.option-index < length c.args.taken.now = omega (arith, c.loop-option-test.true, c.loop-option.auto.option-index-end) in
    let next : suc c.loop-option.option-index ≡ c.loop-option.option-index + 1 = omega arith in
    let o : Choice = Thread None in
    let split = drop_or c.args.taken.now c.loop-option.option-index o low in
    record {
      same = c.loop-option.invariant.same;
      told = ap (λ t. issued_onto c.args.base.now (drop (c.loop-option.option-index + 1) c.args.taken.now) t)
          (ap keys c.in_ok-push-2.ensures.items ∙ keys_snoc c.loop-option.self.trunk.items c.push.new.self [] ∙ ap (λ k. k ∷ keys c.loop-option.self.trunk.items) (c.in_ok-push.ensures.items ∙ ap (λ l. l ++ slice_index_or c.args.taken.now c.loop-option.option-index o ∷ []) (c.in_ok-extend_from_slice.ensures.items ∙ ap (λ l. l ++ c.args.base.now) c.new-key.ensures.items)))
          ∙ ap (λ j. issued_onto c.args.base.now (drop j c.args.taken.now) ((c.args.base.now ++ slice_index_or c.args.taken.now c.loop-option.option-index o ∷ []) ∷ keys c.loop-option.self.trunk.items)) (sym next)
          ∙ ap (λ l. issued_onto c.args.base.now l (keys c.loop-option.self.trunk.items)) (sym split)
          ∙ c.loop-option.invariant.told;
      counts = c.loop-option.invariant.counts;
    }
