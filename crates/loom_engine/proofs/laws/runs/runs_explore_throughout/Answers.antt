use Rattle.loom_engine.proofs.Runs.Exploring.{explores_law}
use Rattle.loom_engine.proofs.laws.runs.runs_explore_throughout.Goals as goal

pub returns : goal.returns
returns g c = explores_law
