use Rattle.std.proofs.Common.{◌≡◌, length}
use Rattle.std.specs.Prelude.{None}
use Rattle.loom.specs.Explain.Places.{place_after}
use Rattle.loom.proofs.explain.events.places.last_place.Given as goal

abbrev pub invariant-loop-first : goal.invariant-loop-first
invariant-loop-first l = place_after l.place l.thread l.rest ≡ place_after None l.thread l.fn.events

abbrev pub decreases-loop-first : goal.decreases-loop-first
decreases-loop-first l = length l.rest
