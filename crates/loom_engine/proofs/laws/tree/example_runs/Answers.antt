use Rattle.loom_engine.proofs.Trees.Example.{example_law}
use Rattle.loom_engine.proofs.laws.tree.example_runs.Goals as goal

pub returns : goal.returns
returns c = example_law
