use Rattle.std.proofs.Common.{◌≡◌, take}
use Rattle.loom.proofs.runner.recorded.covering.run.stand.Given as goal

-- so many places are noted
abbrev pub invariant-loop-place : goal.invariant-loop-place
invariant-loop-place l = l.standing.items ≡ take l.place-index l.places
