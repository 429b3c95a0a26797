use Rattle.std.proofs.Common.{ap}
use Rattle.std.specs.Prelude.{◌==◌}
use Rattle.loom_engine.proofs.rt.path.checkpoint.read.has_one_active.Goals as goal

pub returns : goal.returns
returns c = ap (λ n. n == 1) c.count_active.ensures
