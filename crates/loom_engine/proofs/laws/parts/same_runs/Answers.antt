use Rattle.loom_engine.proofs.Parts.Same.{same_law}
use Rattle.loom_engine.proofs.laws.parts.same_runs.Goals as goal

pub returns : goal.returns
returns c = same_law
