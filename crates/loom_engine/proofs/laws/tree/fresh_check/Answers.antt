use Rattle.loom_engine.proofs.Trees.Checking.{fresh_law}
use Rattle.loom_engine.proofs.laws.tree.fresh_check.Goals as goal

pub returns : goal.returns
returns g c = fresh_law
