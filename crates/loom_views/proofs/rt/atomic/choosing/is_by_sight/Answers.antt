use Rattle.std.proofs.Common.{sym, ◌∙◌}
use Rattle.loom_views.proofs.Atomic.Seeing.{by_sight, none_from}
use Rattle.loom_views.proofs.rt.atomic.choosing.is_by_sight.Goals as goal

pub returns-then-not-is_seq_cst : goal.returns-then-not-is_seq_cst
returns-then-not-is_seq_cst c = λ e t i j. rw c.in-Load.is (by_sight t c.args.views.now c.in-Load.order i j (sym c.is_seq_cst.ensures ∙ c.if-not-is_seq_cst.true) (none_from c.args.views.now.last_yield c.is_none.result c.is_none.ensures e))
