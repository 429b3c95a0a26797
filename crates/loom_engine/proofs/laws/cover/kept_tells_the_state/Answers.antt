use Rattle.loom_engine.proofs.Covering.Kept.{kept_law}
use Rattle.loom_engine.proofs.laws.cover.kept_tells_the_state.Goals as goal

pub returns : goal.returns
returns g c = kept_law
