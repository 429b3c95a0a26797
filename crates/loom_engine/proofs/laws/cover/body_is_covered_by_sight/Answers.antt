use Rattle.loom_engine.proofs.Covering.Sight.{seen_body_law}
use Rattle.loom_engine.proofs.laws.cover.body_is_covered_by_sight.Goals as goal

pub returns : goal.returns
returns g c = seen_body_law
