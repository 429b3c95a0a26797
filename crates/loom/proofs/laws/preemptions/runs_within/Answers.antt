use Rattle.loom.proofs.ModelLemmas.Within.{within_law}
use Rattle.loom.proofs.laws.preemptions.runs_within.Goals as goal

pub returns : goal.returns
returns g c = within_law
