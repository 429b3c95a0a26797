use Rattle.std.proofs.Common.{◌≡◌, length}
use Rattle.loom.specs.Runner.Events.{answer}
use Rattle.loom.proofs.runner.history.entry.answer_to.Given as goal

abbrev pub invariant-loop-first : goal.invariant-loop-first
invariant-loop-first g l = answer l.thread l.rest ≡ answer l.thread l.fn.history

abbrev pub decreases-loop-first : goal.decreases-loop-first
decreases-loop-first g l = length l.rest
