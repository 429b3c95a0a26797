use Rattle.std.proofs.Common.{length, max, replicate, sym, ap, ◌∙◌, arith}
use Rattle.std.proofs.lemmas.Simd.{length-zip2}
use lib.Bits.{bit_and}
use lib.Lanes.{zip2}
use Rattle.loom_views.specs.Lanes.{lane, word_of}
use Rattle.loom_views.proofs.Views.Lanes.{larger_if_at, larger_chosen}
use Rattle.loom_views.proofs.rt.vv.lanes.larger_if.Goals as goal

pub returns : goal.returns
returns c = λ t.
    let own = c.lanes-own.ensures in
    let others = c.lanes-others.ensures in
    let kept = ap (λ m. zip2 bit_and c.lanes-others.result (replicate 8 m)) c.all_or_none-kept.ensures in
    let long = length-zip2 bit_and c.lanes-others.result (replicate 8 c.all_or_none-kept.result) (ap length others) ∙ ap length others in
    ap (λ w. lane w t) (c.word_of.ensures ∙ ap word_of (larger_chosen c.lanes-own.result (zip2 bit_and c.lanes-others.result (replicate 8 c.all_or_none-kept.result)) (ap length own ∙ sym long)))
    ∙ ap (λ ms. lane (word_of (zip2 max c.lanes-own.result ms)) t) kept
    ∙ larger_if_at c.args.word c.args.other c.lanes-own.result c.lanes-others.result c.args.holds (omega arith) (omega arith) own others t
