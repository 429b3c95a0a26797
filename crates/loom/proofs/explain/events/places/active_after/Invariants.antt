use Rattle.std.proofs.Common.{◌≡◌, length}
use Rattle.loom.specs.Explain.Places.{active_after}
use Rattle.loom.proofs.explain.events.places.active_after.Given as goal

abbrev pub invariant-loop-first : goal.invariant-loop-first
invariant-loop-first l = active_after l.thread l.rest ≡ active_after 0 l.fn.choices

abbrev pub decreases-loop-first : goal.decreases-loop-first
decreases-loop-first l = length l.rest
