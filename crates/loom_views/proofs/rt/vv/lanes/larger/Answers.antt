use Rattle.std.proofs.Common.{length, sym, ap, ◌∙◌, arith}
use Rattle.loom_views.specs.Lanes.{lane, word_of}
use Rattle.loom_views.proofs.Views.Lanes.{larger_at, larger_chosen}
use Rattle.loom_views.proofs.rt.vv.lanes.larger.Goals as goal

pub returns : goal.returns
returns c = λ t.
    let own = c.lanes-own.ensures in
    let others = c.lanes-others.ensures in
    ap (λ w. lane w t) (c.word_of.ensures ∙ ap word_of (larger_chosen c.lanes-own.result c.lanes-others.result (ap length own ∙ sym (ap length others))))
    ∙ larger_at c.args.word c.args.other c.lanes-own.result c.lanes-others.result (omega arith) (omega arith) own others t
