use Rattle.std.proofs.Common.{length}
use Rattle.loom_engine.proofs.Covering.Whole.{Leaving}
use Rattle.loom_engine.proofs.rt.states.ways.Ways.leave.Given as goal

abbrev pub invariant-leaving : goal.invariant-leaving
invariant-leaving l = Leaving l.led_by l.made l.fn.self l.self

abbrev pub decreases-leaving : goal.decreases-leaving
decreases-leaving l = length l.self.passed
