use Rattle.loom_text.proofs.LawLemmas.{states_law}
use Rattle.loom_text.proofs.run.laws.states_are_results.Goals as goal

pub returns : goal.returns
returns c = states_law
