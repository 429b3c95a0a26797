use Rattle.std.proofs.Common.{sym, arith}
use Rattle.loom_views.proofs.Views.Lanes.{listed}
use Rattle.loom_views.proofs.rt.vv.lanes.get.Goals as goal

pub returns : goal.returns
returns c = sym (listed c.args.word c.lanes.result (omega arith) c.lanes.ensures c.args.thread)
