use Rattle.loom_engine.proofs.Trees.Resuming.{resumed_runs_law}
use Rattle.loom_engine.proofs.laws.report.resumed_runs.Goals as goal

pub returns : goal.returns
returns g c = resumed_runs_law
