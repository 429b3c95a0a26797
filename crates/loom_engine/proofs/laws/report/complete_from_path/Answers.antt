use Rattle.loom_engine.proofs.Trees.Resuming.{complete_from_law}
use Rattle.loom_engine.proofs.laws.report.complete_from_path.Goals as goal

pub returns : goal.returns
returns g c = complete_from_law
