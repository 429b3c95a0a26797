use Rattle.std.proofs.Common.{◌<◌, take}
use Rattle.std.specs.Prelude.{All}
use Rattle.loom_engine.proofs.rt.snapshots.count_before.Given as goal

-- those so far are before the place
abbrev pub invariant-loop-count : goal.invariant-loop-count
invariant-loop-count g l = All (λ kept. kept.standing.position < l.place) (take l.count l.list)
