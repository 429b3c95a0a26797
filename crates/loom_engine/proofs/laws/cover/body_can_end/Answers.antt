use Rattle.loom_engine.proofs.Covering.Sight.{body_ends_law}
use Rattle.loom_engine.proofs.laws.cover.body_can_end.Goals as goal

pub returns : goal.returns
returns g c = body_ends_law
