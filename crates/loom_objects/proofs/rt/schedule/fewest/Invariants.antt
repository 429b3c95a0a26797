use Rattle.std.proofs.Common.{◌≡◌, drop, None}
use Rattle.loom_objects.specs.Schedule.Defaults.{fewest}
use Rattle.loom_objects.proofs.rt.schedule.fewest.Given as goal

-- the best so far, and those that are left
abbrev pub invariant-loop-place : goal.invariant-loop-place
invariant-loop-place l = fewest l.best l.place (drop l.place l.standings) ≡ fewest None 0 l.fn.standings
