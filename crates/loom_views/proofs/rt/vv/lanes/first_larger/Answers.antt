use Rattle.std.proofs.Common.{length, ap, sym, ◌∙◌, arith, mod-lt}
use Rattle.loom_views.proofs.Views.Lanes.{flags_compared, none_larger, some_larger}
use Rattle.loom_views.proofs.rt.vv.lanes.first_larger.Goals as goal

pub returns-then-ahead-eq0 : goal.returns-then-ahead-eq0
returns-then-ahead-eq0 c =
    let own = c.lanes-own.ensures in
    let others = c.lanes-others.ensures in
    let flags = flags_compared c.lanes-own.result c.lanes-others.result (ap length own) (ap length others) in
    none_larger c.args.word c.args.other c.lanes-own.result c.lanes-others.result (omega arith) (omega arith) own others (sym flags ∙ c.if-ahead-eq0.true)

pub returns-else-ahead-eq0 : goal.returns-else-ahead-eq0
returns-else-ahead-eq0 c =
    let own = c.lanes-own.ensures in
    let others = c.lanes-others.ensures in
    let flags = flags_compared c.lanes-own.result c.lanes-others.result (ap length own) (ap length others) in
    some_larger c.args.word c.args.other c.lanes-own.result c.lanes-others.result _ (omega arith) (omega arith) own others flags (omega (arith, c.if-ahead-eq0.false)) (mod-lt _ (omega arith))
