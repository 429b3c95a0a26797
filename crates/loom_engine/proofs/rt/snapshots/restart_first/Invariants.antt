use Rattle.std.proofs.Common.{◌≡◌, length, take}
use Rattle.loom_engine.proofs.rt.snapshots.restart_first.Given as goal

-- those so far
abbrev pub invariant-loop-place : goal.invariant-loop-place
invariant-loop-place g l = (length l.bodies.items ≡ length l.fn.bodies.items) × (take l.place l.bodies.items ≡ take l.place l.others)
