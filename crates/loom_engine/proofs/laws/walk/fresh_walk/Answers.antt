use Rattle.loom_engine.proofs.Walk.Round.{fresh_law}
use Rattle.loom_engine.proofs.laws.walk.fresh_walk.Goals as goal

pub returns : goal.returns
returns c = fresh_law
