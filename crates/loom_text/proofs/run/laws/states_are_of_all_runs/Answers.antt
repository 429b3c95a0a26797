use Rattle.loom_text.proofs.WholeLemmas.{each_run_law}
use Rattle.loom_text.proofs.run.laws.states_are_of_all_runs.Goals as goal

pub returns : goal.returns
returns c = each_run_law
