use Rattle.loom_engine.proofs.Walk.Together.{join_law}
use Rattle.loom_engine.proofs.laws.walk.join_walks.Goals as goal

pub returns : goal.returns
returns c = join_law
