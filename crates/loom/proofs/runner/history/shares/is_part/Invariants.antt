use Rattle.std.proofs.Common.{◌≡◌, ◌↔◌, length}
use Rattle.loom.specs.Runner.Events.{part}
use Rattle.loom.proofs.runner.history.shares.is_part.Given as goal

abbrev pub invariant-loop-first : goal.invariant-loop-first
invariant-loop-first g l = (part l.thread l.rest ≡ l.left) ↔ (part l.thread l.fn.history ≡ l.fn.entries)

abbrev pub decreases-loop-first : goal.decreases-loop-first
decreases-loop-first g l = length l.rest
