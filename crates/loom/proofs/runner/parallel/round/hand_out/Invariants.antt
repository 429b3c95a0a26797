use Rattle.std.proofs.Common.{◌≡◌, length}
use Rattle.loom.specs.Runner.Workers.{AreHandedOut}
use Rattle.loom.proofs.runner.parallel.round.hand_out.Given as goal

abbrev pub invariant-loop-number : goal.invariant-loop-number
invariant-loop-number g l = AreHandedOut g.G.Visitors.is_new l.parts.list.items 0 l.jobs.items × (length l.jobs.items ≡ l.number)
