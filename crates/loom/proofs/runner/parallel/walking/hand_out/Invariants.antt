use Rattle.std.proofs.Common.{◌≡◌, ◌⊎◌, ◌<◌, ◌+◌}
use Rattle.loom.specs.Runner.Legs.{AreNew, asked_of}
use Rattle.loom.proofs.runner.parallel.walking.hand_out.Given as goal

-- some of the runs are in legs, and the others are left
abbrev pub invariant-loop-number : goal.invariant-loop-number
invariant-loop-number g l = record { new : AreNew g.G.Visitors.is_new l.legs.items; left : asked_of l.legs.items + l.left ≡ l.runs; some : (l.number ≡ 0) ⊎ (0 < asked_of l.legs.items) }
