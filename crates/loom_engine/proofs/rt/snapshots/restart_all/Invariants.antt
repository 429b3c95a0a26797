use Rattle.std.proofs.Common.{◌≡◌, take}
use Rattle.loom_engine.proofs.rt.snapshots.restart_all.Given as goal

-- those so far
abbrev pub invariant-loop-place : goal.invariant-loop-place
invariant-loop-place g l = l.bodies.items ≡ take l.place l.others
