use Rattle.std.proofs.Common.{ℕ, ◌<◌}
use Rattle.loom_engine.specs.Parts.Keeping.{IsBaseOf}
use Rattle.loom_engine.proofs.rt.parts.Parts.place_of.Given as goal

abbrev pub invariant-loop-number : goal.invariant-loop-number
invariant-loop-number l = (k : ℕ) → k < l.number → IsBaseOf l.self.list.items l.base k → ⊥
