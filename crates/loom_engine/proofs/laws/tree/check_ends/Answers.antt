use Rattle.loom_engine.proofs.Trees.Checking.{end_law}
use Rattle.loom_engine.proofs.laws.tree.check_ends.Goals as goal

pub returns : goal.returns
returns g c = end_law
