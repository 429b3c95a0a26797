use Rattle.loom_engine.proofs.Covering.Spreading.{spread_law}
use Rattle.loom_engine.proofs.laws.cover.spread_search_tries_all.Goals as goal

pub returns : goal.returns
returns g = spread_law
