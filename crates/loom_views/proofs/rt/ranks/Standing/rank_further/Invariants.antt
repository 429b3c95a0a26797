use Rattle.loom_views.specs.InOrder.{AreBelow, AreRising}
use Rattle.loom_views.proofs.rt.ranks.Standing.rank_further.Given as goal

-- those so far are in order, each below the next one
abbrev pub invariant-loop-count : goal.invariant-loop-count
invariant-loop-count l = AreRising l.ranks × AreBelow l.rank l.ranks
