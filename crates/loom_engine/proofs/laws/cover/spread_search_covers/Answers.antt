use Rattle.loom_engine.proofs.Covering.Spreading.{spread_covers_law}
use Rattle.loom_engine.proofs.laws.cover.spread_search_covers.Goals as goal

pub returns : goal.returns
returns g c = spread_covers_law
