use Rattle.std.proofs.Common.{ℕ, ◌≡◌, ◌<◌, ◌≤◌, None}
use Rattle.std.specs.Prelude.{slice_index_or}
use Rattle.loom_views.specs.InOrder.{PairsCounts, Ranked}
use Rattle.loom_views.proofs.rt.atomic.touches.Touches.ranked.Given as goal

-- those so far are by ranks, and the others as they were
abbrev pub invariant-loop-thread : goal.invariant-loop-thread
invariant-loop-thread l =
    record {
      ranked : (t : ℕ) → t < l.thread → PairsCounts (Ranked l.ranks) t (slice_index_or l.self t None) (slice_index_or l.ranked t None);
      left : (t : ℕ) → l.thread ≤ t → t < 5 → slice_index_or l.ranked t None ≡ slice_index_or l.self t None;
    }
