use Rattle.std.proofs.Common.{◌≡◌, ◌++◌, length}
use Rattle.loom_objects.proofs.rt.kept.copied_messages.Given as goal

abbrev pub invariant-loop-message : goal.invariant-loop-message
invariant-loop-message g l = l.made ++ l.rest ≡ l.messages

abbrev pub decreases-loop-message : goal.decreases-loop-message
decreases-loop-message g l = length l.rest
