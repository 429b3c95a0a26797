use Rattle.loom.proofs.RunnerLemmas.Failing.{failure_law}
use Rattle.loom.proofs.runner.turns.laws.failures_are_its_own.Goals as goal

pub returns : goal.returns
returns g c = failure_law
