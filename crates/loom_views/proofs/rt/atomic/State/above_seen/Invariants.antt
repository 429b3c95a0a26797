use Rattle.std.proofs.Common.{◌≡◌, ◌<◌, ℕ, false, not, get_or, length}
use Rattle.std.specs.List.{list_any}
use Rattle.loom_views.specs.Atomic.Slots.{upto}
use Rattle.loom_views.specs.Atomic.Ring.{is_below_seen}
use Rattle.loom_views.proofs.rt.atomic.State.above_seen.Given as goal

-- the slots that none of those so far keeps the reader from
abbrev pub invariant-loop-j : goal.invariant-loop-j
invariant-loop-j l = record {
  size : length l.set ≡ 7;
  left : (k : ℕ) → k < 7 → get_or l.set k false ≡ not (list_any (is_below_seen l.self.stores l.view k) (upto l.j));
}
