use Rattle.loom.proofs.RunnerLemmas.Leading.{kept_spoiled}
use Rattle.loom.proofs.runner.turns.Turns.take_path.Goals as goal

pub invariant_of-self : goal.invariant_of-self
invariant_of-self g c = kept_spoiled _ _ _ _ _ _
