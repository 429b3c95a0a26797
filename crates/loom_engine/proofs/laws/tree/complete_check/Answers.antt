use Rattle.loom_engine.proofs.Trees.Checking.{complete_law}
use Rattle.loom_engine.proofs.laws.tree.complete_check.Goals as goal

pub returns : goal.returns
returns g c = complete_law
