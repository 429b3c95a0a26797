use Rattle.loom_engine.proofs.Trees.Counting.{every_run_law}
use Rattle.loom_engine.proofs.laws.tree.every_run_reachable.Goals as goal

pub returns : goal.returns
returns g c = every_run_law
