use Rattle.loom_engine.proofs.Trees.Foreign.{foreign_law}
use Rattle.loom_engine.proofs.laws.tree.foreign_path.Goals as goal

pub returns : goal.returns
returns c = foreign_law
