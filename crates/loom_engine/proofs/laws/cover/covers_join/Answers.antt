use Rattle.loom_engine.proofs.Covering.Joined.{joined_law}
use Rattle.loom_engine.proofs.laws.cover.covers_join.Goals as goal

pub returns : goal.returns
returns g c = joined_law
