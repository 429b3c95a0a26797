use Rattle.loom_engine.proofs.Trees.Resuming.{joined_law}
use Rattle.loom_engine.proofs.laws.report.join_checks.Goals as goal

pub returns : goal.returns
returns g c = joined_law
