use Rattle.std.proofs.Common.{length, ap, sym, ◌∙◌, arith}
use Rattle.std.proofs.lemmas.Bool.{eq-eqb, eqb-true}
use Rattle.loom_views.proofs.Views.Lanes.{flags_compared, all_flags, flags_all}
use Rattle.loom_views.proofs.rt.vv.lanes.are_larger.Goals as goal

pub returns : goal.returns
returns c =
    let own = c.lanes-own.ensures in
    let others = c.lanes-others.ensures in
    let flags = flags_compared c.lanes-own.result c.lanes-others.result (ap length own) (ap length others) in (
      λ e. all_flags c.args.word c.args.other c.lanes-own.result c.lanes-others.result (omega arith) (omega arith) own others (sym flags ∙ eqb-true _ 255 e),
      λ larger. eq-eqb _ 255 (flags ∙ flags_all c.args.word c.args.other c.lanes-own.result c.lanes-others.result own others larger),
    )
