use Rattle.loom_engine.proofs.Trees.Reducing.{reduced_law}
use Rattle.loom_engine.proofs.laws.tree.reduced_runs.Goals as goal

pub returns : goal.returns
returns g c = reduced_law
