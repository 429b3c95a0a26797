use Rattle.loom_engine.proofs.Walk.Together.{stopped_law}
use Rattle.loom_engine.proofs.laws.walk.stopped_walk.Goals as goal

pub returns : goal.returns
returns c = stopped_law
