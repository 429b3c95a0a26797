use Rattle.loom_text.proofs.WholeLemmas.{shared_run_law}
use Rattle.loom_text.proofs.run.laws.states_are_of_shared_runs.Goals as goal

pub returns : goal.returns
returns c = shared_run_law
