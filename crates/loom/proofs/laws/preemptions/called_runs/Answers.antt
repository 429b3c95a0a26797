use Rattle.loom.proofs.ModelLemmas.Called.{called_runs_law}
use Rattle.loom.proofs.laws.preemptions.called_runs.Goals as goal

pub returns : goal.returns
returns c = called_runs_law
