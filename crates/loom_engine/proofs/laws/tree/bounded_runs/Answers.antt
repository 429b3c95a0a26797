use Rattle.loom_engine.proofs.Trees.Counting.{bound_law}
use Rattle.loom_engine.proofs.laws.tree.bounded_runs.Goals as goal

pub returns : goal.returns
returns g c = bound_law
