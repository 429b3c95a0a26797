use Rattle.std.proofs.Common.{◌≡◌, ◌↔◌, length}
use Rattle.loom.proofs.runner.same.lists.are_same_messages.Given as goal

abbrev pub invariant-loop-first : goal.invariant-loop-first
invariant-loop-first g l = (l.rest ≡ l.left) ↔ (l.fn.one ≡ l.fn.other)

abbrev pub decreases-loop-first : goal.decreases-loop-first
decreases-loop-first g l = length l.rest
