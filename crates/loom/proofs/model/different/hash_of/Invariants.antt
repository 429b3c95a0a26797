use Rattle.std.proofs.Common.{◌≡◌, length}
use Rattle.loom.specs.Model.Different.{hash_from, hash_of}
use Rattle.loom.proofs.model.different.hash_of.Given as goal

abbrev pub invariant-loop-first : goal.invariant-loop-first
invariant-loop-first l = hash_from l.hash l.rest ≡ hash_of l.choices

abbrev pub decreases-loop-first : goal.decreases-loop-first
decreases-loop-first l = length l.rest
