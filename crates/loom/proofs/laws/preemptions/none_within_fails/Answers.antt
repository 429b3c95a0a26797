use Rattle.loom.proofs.ModelLemmas.Within.{no_failure_law}
use Rattle.loom.proofs.laws.preemptions.none_within_fails.Goals as goal

pub returns : goal.returns
returns g c = no_failure_law
