use Rattle.loom_engine.proofs.Covering.Cut.{check_law}
use Rattle.loom_engine.proofs.laws.cover.check_covers.Goals as goal

pub returns : goal.returns
returns g c = check_law
