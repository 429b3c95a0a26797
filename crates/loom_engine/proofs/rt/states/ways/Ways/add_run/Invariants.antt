use Rattle.loom_engine.specs.Covering.Between.{AddsWithin}
use Rattle.loom_engine.proofs.Covering.Whole.{Passing}
use Rattle.loom_engine.proofs.rt.states.ways.Ways.add_run.Given as goal

-- the ways so far, and the states that were passed
abbrev pub invariant-loop-number : goal.invariant-loop-number
invariant-loop-number l = record { ways : AddsWithin l.led_by l.made l.fn.self.ways l.self.ways; passing : Passing l.led_by l.made l.fn.first l.number l.fn.self l.self }
