use Rattle.loom.proofs.RunnerLemmas.Once.{once_law}
use Rattle.loom.proofs.runner.turns.laws.no_list_comes_twice.Goals as goal

pub returns : goal.returns
returns g c = once_law
