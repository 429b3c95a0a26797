use Rattle.loom_engine.proofs.Covering.Trails.{Grafting}
use Rattle.loom_engine.proofs.rt.states.trails.graft.Given as goal

abbrev pub invariant-loop-number : goal.invariant-loop-number
invariant-loop-number l = Grafting l.fn.steps l.other l.number l.steps
