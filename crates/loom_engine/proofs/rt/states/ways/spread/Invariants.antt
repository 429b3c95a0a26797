use Rattle.loom_engine.proofs.Covering.Between.{Spread}
use Rattle.loom_engine.proofs.rt.states.ways.spread.Given as goal

abbrev pub invariant-loop-left : goal.invariant-loop-left
invariant-loop-left l = Spread l.ways l.fn.set l.set l.left l.changed

abbrev pub decreases-loop-left : goal.decreases-loop-left
decreases-loop-left l = l.left
