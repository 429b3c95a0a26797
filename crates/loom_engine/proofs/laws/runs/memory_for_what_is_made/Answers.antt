use Rattle.loom_engine.proofs.Runs.Growth.{growth_law}
use Rattle.loom_engine.proofs.laws.runs.memory_for_what_is_made.Goals as goal

pub returns : goal.returns
returns g c = growth_law
