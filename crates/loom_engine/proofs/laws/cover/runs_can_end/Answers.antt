use Rattle.loom_engine.proofs.Covering.Ways.{can_end_law}
use Rattle.loom_engine.proofs.laws.cover.runs_can_end.Goals as goal

pub returns : goal.returns
returns g c = can_end_law
