use Rattle.std.proofs.Common.{◌≡◌, ◌-◌, ◌≤◌, length, map}
use Rattle.loom_views.specs.InOrder.{AreBelow, AreRising, rank_of}
use Rattle.loom_views.proofs.Ranks.{StandBefore}
use Rattle.loom_views.proofs.rt.ranks.rank_first.Given as goal

-- those so far are in order before this count, each below the next one
abbrev pub invariant-loop-count : goal.invariant-loop-count
invariant-loop-count l =
    record {
      size : length l.ranks ≡ 64;
      few : l.next ≤ l.count;
      rising : AreRising (map rank_of l.ranks);
      below : AreBelow l.next (map rank_of l.ranks);
      before : StandBefore l.count (map rank_of l.ranks);
    }

abbrev pub decreases-loop-count : goal.decreases-loop-count
decreases-loop-count l = 64 - l.count
