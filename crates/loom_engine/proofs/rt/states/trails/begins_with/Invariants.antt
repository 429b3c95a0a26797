use Rattle.loom_engine.proofs.Covering.Trails.{Walking}
use Rattle.loom_engine.proofs.rt.states.trails.begins_with.Given as goal

abbrev pub invariant-back : goal.invariant-back
invariant-back l = Walking l.steps l.made l.fn.lead l.at

abbrev pub decreases-back : goal.decreases-back
decreases-back l = l.at.len
