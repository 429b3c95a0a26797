use Rattle.loom_engine.proofs.Trees.Checking.{failure_law}
use Rattle.loom_engine.proofs.laws.tree.failed_check.Goals as goal

pub returns : goal.returns
returns g c = failure_law
