use Rattle.std.proofs.Common.{◌≡◌, length}
use Rattle.loom.proofs.explain.events.options.options_at.Given as goal

-- as many as there were nodes so far
abbrev pub invariant-loop-node : goal.invariant-loop-node
invariant-loop-node l = length l.options.items ≡ l.node-index
