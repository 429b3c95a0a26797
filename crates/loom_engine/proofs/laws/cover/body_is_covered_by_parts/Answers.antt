use Rattle.loom_engine.proofs.Covering.Spreading.{spread_body_law}
use Rattle.loom_engine.proofs.laws.cover.body_is_covered_by_parts.Goals as goal

pub returns : goal.returns
returns g c = spread_body_law
