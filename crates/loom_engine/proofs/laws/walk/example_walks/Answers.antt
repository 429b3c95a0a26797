use Rattle.loom_engine.proofs.Walk.Example.{example_law}
use Rattle.loom_engine.proofs.laws.walk.example_walks.Goals as goal

pub returns : goal.returns
returns c = example_law
