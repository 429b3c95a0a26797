use Rattle.loom_engine.proofs.Trees.Resuming.{failed_from_law}
use Rattle.loom_engine.proofs.laws.report.failed_from_path.Goals as goal

pub returns : goal.returns
returns g c = failed_from_law
