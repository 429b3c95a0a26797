use Rattle.loom_engine.proofs.Walk.Together.{complete_law}
use Rattle.loom_engine.proofs.laws.walk.complete_walk.Goals as goal

pub returns : goal.returns
returns c = complete_law
