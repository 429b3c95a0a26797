use Rattle.loom_engine.proofs.Walk.Driven.{driven_law}
use Rattle.loom_engine.proofs.laws.walk.driven_walk.Goals as goal

pub returns : goal.returns
returns c = driven_law
