use Rattle.std.proofs.Common.{◌≡◌, length}
use Rattle.loom_engine.specs.Covering.Between.{AreReaching, unset}
use Rattle.loom_engine.proofs.rt.states.ways.Ways.first_lost.Given as goal

-- what is set reaches an end
abbrev pub invariant-spreading : goal.invariant-spreading
invariant-spreading l = record { counted : length l.set.items ≡ l.count; reaching : AreReaching l.self.ways l.count l.set.items }

abbrev pub decreases-spreading : goal.decreases-spreading
decreases-spreading l = unset l.set.items
