use Rattle.loom_text.proofs.CoveredLemmas.{covered_law}
use Rattle.loom_text.proofs.run.laws.states_are_of_covered_runs.Goals as goal

pub returns : goal.returns
returns c = covered_law
