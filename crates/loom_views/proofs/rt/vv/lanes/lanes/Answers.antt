use Rattle.std.proofs.Common.{refl, arith}
use Rattle.loom_views.proofs.Views.Lanes.{lanes_of_halves}
use Rattle.loom_views.proofs.rt.vv.lanes.lanes.Goals as goal

pub returns : goal.returns
returns c = lanes_of_halves c.args.word _ _ (omega arith) refl refl
