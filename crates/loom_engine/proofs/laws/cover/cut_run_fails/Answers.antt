use Rattle.loom_engine.proofs.Covering.Cut.{fail_law}
use Rattle.loom_engine.proofs.laws.cover.cut_run_fails.Goals as goal

pub returns : goal.returns
returns g c = fail_law
