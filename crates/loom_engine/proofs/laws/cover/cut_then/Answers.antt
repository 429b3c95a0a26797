use Rattle.loom_engine.proofs.Covering.Then.{then_law}
use Rattle.loom_engine.proofs.laws.cover.cut_then.Goals as goal

pub returns : goal.returns
returns g c = then_law
