use Rattle.loom_engine.proofs.Trees.Resuming.{stopped_from_law}
use Rattle.loom_engine.proofs.laws.report.stopped_from_path.Goals as goal

pub returns : goal.returns
returns g c = stopped_from_law
