use Rattle.loom_engine.proofs.Covering.Trails.{Sharing}
use Rattle.loom_engine.proofs.rt.states.trails.shared.Given as goal

abbrev pub invariant-back : goal.invariant-back
invariant-back l = Sharing l.steps l.made l.at l.found

abbrev pub decreases-back : goal.decreases-back
decreases-back l = l.at.len
