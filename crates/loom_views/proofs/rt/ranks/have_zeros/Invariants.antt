use Rattle.std.proofs.Common.{ℕ, ◌<◌}
use Rattle.loom_views.specs.InOrder.{Ranked}
use Rattle.loom_views.proofs.rt.ranks.have_zeros.Given as goal

-- those so far have it
abbrev pub invariant-loop-thread : goal.invariant-loop-thread
invariant-loop-thread l = (t : ℕ) → t < l.thread → Ranked l.threads t 0 0
