use Rattle.std.proofs.Common.{◌≡◌, take}
use Rattle.loom_engine.proofs.rt.states.shelves.Shelves.bodies.Given as goal

-- those so far
abbrev pub invariant-loop-body : goal.invariant-loop-body
invariant-loop-body g l = l.shared.items ≡ take l.body-index l.bodies
