use Rattle.loom.proofs.RunnerLemmas.Alternatives.{alternatives_law}
use Rattle.loom.proofs.runner.turns.laws.alternatives_are_made.Goals as goal

pub returns : goal.returns
returns g c = alternatives_law
