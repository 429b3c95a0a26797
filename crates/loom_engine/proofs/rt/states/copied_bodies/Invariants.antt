use Rattle.std.proofs.Common.{◌≡◌, take}
use Rattle.loom_engine.proofs.rt.states.copied_bodies.Given as goal

-- those so far
abbrev pub invariant-loop-body : goal.invariant-loop-body
invariant-loop-body g l = l.copy.items ≡ take l.body-index l.bodies
