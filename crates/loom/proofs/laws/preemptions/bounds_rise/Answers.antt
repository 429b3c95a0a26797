use Rattle.loom.proofs.ModelLemmas.Within.{rising_law}
use Rattle.loom.proofs.laws.preemptions.bounds_rise.Goals as goal

pub returns : goal.returns
returns g c = rising_law
