use Rattle.std.proofs.Common.{◌≡◌, ◌++◌, length}
use Rattle.loom_objects.proofs.rt.kept.copied_data.Given as goal

abbrev pub invariant-loop-value : goal.invariant-loop-value
invariant-loop-value g l = l.made ++ l.rest ≡ l.held

abbrev pub decreases-loop-value : goal.decreases-loop-value
decreases-loop-value g l = length l.rest
