use Rattle.loom_engine.proofs.Walk.UnderWay.{over_law}
use Rattle.loom_engine.proofs.laws.walk.run_over.Goals as goal

pub returns : goal.returns
returns c = over_law
