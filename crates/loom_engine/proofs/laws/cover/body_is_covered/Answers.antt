use Rattle.loom_engine.proofs.Covering.States.{covered_body_law}
use Rattle.loom_engine.proofs.laws.cover.body_is_covered.Goals as goal

pub returns : goal.returns
returns g c = covered_body_law
