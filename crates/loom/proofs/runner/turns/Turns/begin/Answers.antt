use Rattle.loom.proofs.RunnerLemmas.Leading.{kept_beginning}
use Rattle.loom.proofs.runner.turns.Turns.begin.Goals as goal

pub invariant_of-result : goal.invariant_of-result
invariant_of-result g c =
    let a = c.in_ok-execution.ensures in
    let b = c.in_ok-began.ensures in
    let d = c.in_ok-path.ensures in
    kept_beginning _ _ _ _ _ _ (rw d c.requires.empty) c.in_ok-history.ensures (cc) a.over (rw b c.requires.starts) a.opens

pub returns-clause-began : goal.returns-clause-began
returns-clause-began g c = c.in_ok-began.ensures
