use Rattle.loom_engine.proofs.Covering.Trails.{Comparing}
use Rattle.loom_engine.proofs.rt.states.trails.are_equal.Given as goal

abbrev pub invariant-back : goal.invariant-back
invariant-back l = Comparing l.steps l.fn.one l.fn.other l.at l.beside

abbrev pub decreases-back : goal.decreases-back
decreases-back l = l.at.len
