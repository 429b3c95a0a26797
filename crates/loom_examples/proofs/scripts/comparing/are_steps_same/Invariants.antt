use Rattle.std.proofs.Common.{◌≡◌, length, map}
use Rattle.loom_examples.specs.Scripts.Written.{written}
use Rattle.loom_examples.proofs.scripts.comparing.are_steps_same.Given as goal

-- what is left would have to read the same
abbrev pub invariant-loop-first : goal.invariant-loop-first
invariant-loop-first l = map written l.rest ≡ map written l.left → map written l.fn.one ≡ map written l.fn.other

abbrev pub decreases-loop-first : goal.decreases-loop-first
decreases-loop-first l = length l.rest
