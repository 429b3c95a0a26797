use Rattle.loom_engine.proofs.Runs.Making.{made_once}
use Rattle.loom_engine.proofs.laws.runs.lazy_values_are_made_once.Goals as goal

pub returns : goal.returns
returns g c = made_once
