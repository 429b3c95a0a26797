use Rattle.std.proofs.Common.{false}
use Rattle.loom.proofs.RunnerLemmas.Leading.{kept_beginning, kept_spoiled}
use Rattle.loom.proofs.runner.turns.Turns.restart.Goals as goal

pub invariant_of-self : goal.invariant_of-self
invariant_of-self g c = kept_spoiled _ _ _ _ _ _

pub invariant_of-self-in-Break-branch-4 : goal.invariant_of-self-in-Break-branch-4
invariant_of-self-in-Break-branch-4 g c = kept_spoiled _ _ _ _ _ _

pub invariant_of-self-2 : goal.invariant_of-self-2
invariant_of-self-2 g c =
    let a = c.in_ok-restart-2.ensures in
    let b = c.in_ok-began.ensures in
    let d = c.in_ok-along.ensures in
    kept_beginning false _ _ _ _ _ (λ is. cc is) c.in_ok-restart.ensures.events (cc) a.over (rw b c.requires.starts) a.opens
