use Rattle.std.proofs.Common.{◌≡◌, length, replicate}
use Rattle.loom_views.specs.Packed.{empty_store}
use Rattle.loom_views.proofs.rt.atomic.are_empty.Given as goal

-- what is left would have to be empty
abbrev pub invariant-loop-first : goal.invariant-loop-first
invariant-loop-first l = l.rest ≡ replicate (length l.rest) empty_store → l.fn.stores ≡ replicate (length l.fn.stores) empty_store

abbrev pub decreases-loop-first : goal.decreases-loop-first
decreases-loop-first l = length l.rest
