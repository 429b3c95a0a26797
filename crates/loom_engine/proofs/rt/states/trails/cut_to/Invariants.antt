use Rattle.loom_engine.proofs.Covering.Trails.{Cutting}
use Rattle.loom_engine.proofs.rt.states.trails.cut_to.Given as goal

abbrev pub invariant-back : goal.invariant-back
invariant-back l = Cutting l.steps l.fn.lead l.len l.at

abbrev pub decreases-back : goal.decreases-back
decreases-back l = l.at.len
