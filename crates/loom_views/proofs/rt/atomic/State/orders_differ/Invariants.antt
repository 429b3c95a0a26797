use Rattle.std.proofs.Common.{◌≡◌, ◌<◌, ℕ, false}
use Rattle.loom_views.specs.Atomic.Ring.{is_same_slot}
use Rattle.loom_views.proofs.rt.atomic.State.orders_differ.Given as goal

-- the slots so far have other orders than those below
abbrev pub invariant-loop-i : goal.invariant-loop-i
invariant-loop-i l = (i j : ℕ) → i < l.i → j < i → is_same_slot l.self i j ≡ false
