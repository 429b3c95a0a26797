use Rattle.loom_engine.proofs.Covering.Trails.{Going}
use Rattle.loom_engine.proofs.rt.states.trails.walk_on.Given as goal

abbrev pub invariant-loop-place : goal.invariant-loop-place
invariant-loop-place l = Going l.fn.steps l.steps l.made l.place l.last
