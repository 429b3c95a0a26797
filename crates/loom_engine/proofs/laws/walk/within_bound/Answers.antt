use Rattle.loom_engine.proofs.Walk.Bound.{bound_law}
use Rattle.loom_engine.proofs.laws.walk.within_bound.Goals as goal

pub returns : goal.returns
returns c = bound_law
