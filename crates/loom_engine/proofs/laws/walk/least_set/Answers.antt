use Rattle.loom_engine.proofs.Walk.Round.{least_law}
use Rattle.loom_engine.proofs.laws.walk.least_set.Goals as goal

pub returns : goal.returns
returns c = least_law
