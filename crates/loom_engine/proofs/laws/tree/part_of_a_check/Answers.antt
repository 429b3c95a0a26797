use Rattle.loom_engine.proofs.Trees.Checking.{part_law}
use Rattle.loom_engine.proofs.laws.tree.part_of_a_check.Goals as goal

pub returns : goal.returns
returns g c = part_law
