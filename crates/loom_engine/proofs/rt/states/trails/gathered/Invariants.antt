use Rattle.loom_engine.proofs.Covering.Trails.{Gathering}
use Rattle.loom_engine.proofs.rt.states.trails.gathered.Given as goal

abbrev pub invariant-back : goal.invariant-back
invariant-back l = Gathering l.steps l.fn.lead l.at l.list.items

abbrev pub decreases-back : goal.decreases-back
decreases-back l = l.at.len
