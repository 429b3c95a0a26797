use Rattle.loom_engine.proofs.Walk.Ends.{ends_law}
use Rattle.loom_engine.proofs.laws.walk.walk_ends.Goals as goal

pub returns : goal.returns
returns c = ends_law
