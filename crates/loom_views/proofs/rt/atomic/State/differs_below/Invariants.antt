use Rattle.std.proofs.Common.{◌≡◌, ◌<◌, ℕ, false}
use Rattle.loom_views.specs.Atomic.Ring.{is_same_slot}
use Rattle.loom_views.proofs.rt.atomic.State.differs_below.Given as goal

-- the slots so far have another order than slot i
abbrev pub invariant-loop-j : goal.invariant-loop-j
invariant-loop-j l = (k : ℕ) → k < l.j → is_same_slot l.self l.i k ≡ false
