use Rattle.std.proofs.Common.{◌∙◌, arith}
use Rattle.loom_views.proofs.rt.vv.lanes.of.Goals as goal

pub returns : goal.returns
returns c = c.word_of.ensures ∙ (omega arith)
