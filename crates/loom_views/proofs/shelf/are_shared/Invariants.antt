use Rattle.std.proofs.Common.{◌≡◌, length}
use Rattle.loom_views.proofs.shelf.are_shared.Given as goal

-- what is left would have to be the same
abbrev pub invariant-loop-first : goal.invariant-loop-first
invariant-loop-first g l = l.rest ≡ l.left → l.fn.shared ≡ l.fn.values

abbrev pub decreases-loop-first : goal.decreases-loop-first
decreases-loop-first g l = length l.rest
