use Rattle.std.proofs.Common.{◌≡◌, ◌≤◌, ◌<◌, ℕ, false, not, ◌&&◌, ◌||◌, get_or, length}
use Rattle.loom_views.specs.Atomic.Ring.{is_slot_below}
use Rattle.loom_views.proofs.rt.atomic.State.leave_below.Given as goal

-- the slots so far have left, or stay
abbrev pub invariant-loop-i : goal.invariant-loop-i
invariant-loop-i l = record {
  size : length l.set ≡ 7;
  left : (k : ℕ) → k < l.i → get_or l.set k false ≡ (get_or l.fn.set k false && (not l.is_seen || not (is_slot_below l.self.stores k l.j)));
  rest : (k : ℕ) → l.i ≤ k → get_or l.set k false ≡ get_or l.fn.set k false;
}
