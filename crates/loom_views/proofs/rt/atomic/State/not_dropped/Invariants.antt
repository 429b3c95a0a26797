use Rattle.std.proofs.Common.{◌≡◌, ◌≤◌, ◌<◌, ℕ, not, false, get_or, length}
use Rattle.std.specs.List.{list_any}
use Rattle.loom_views.specs.Atomic.Slots.{slots, has_equal_order_at}
use Rattle.loom_views.specs.Atomic.Ring.{drops_slot, is_same_slot}
use Rattle.loom_views.proofs.rt.atomic.State.not_dropped.Given as goal

-- the slots so far that no kept store drops, none of which has another's order
abbrev pub invariant-loop-i : goal.invariant-loop-i
invariant-loop-i l = record {
  seven : length l.set ≡ 7;
  found : (k : ℕ) → k < l.i → get_or l.set k false ≡ not (list_any (drops_slot l.self l.thread l.views l.reader k) (slots l.self.count));
  rest : (k : ℕ) → l.i ≤ k → get_or l.set k false ≡ false;
  apart : (k : ℕ) → k < l.i → has_equal_order_at (is_same_slot l.self) (drops_slot l.self l.thread l.views l.reader) l.self.count k ≡ false;
}
