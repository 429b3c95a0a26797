use Rattle.std.proofs.Common.{◌≡◌, ◌++◌, length}
use Rattle.loom.specs.Runner.Explained.{told_events, told_from}
use Rattle.loom.proofs.runner.history.telling.told_events.Given as goal

abbrev pub invariant-loop-first : goal.invariant-loop-first
invariant-loop-first g l = l.events.items ++ told_from l.told l.rest ≡ told_events l.fn.history

abbrev pub decreases-loop-first : goal.decreases-loop-first
decreases-loop-first g l = length l.rest
