use Rattle.std.proofs.Common.{◌≡◌, length}
use Rattle.loom.specs.Model.ChoicesRead.{choices_in}
use Rattle.loom.proofs.ModelLemmas.Reading.{put_before}
use Rattle.loom.proofs.choices.Choices.parse.Given as goal

-- the choices so far stand before those of the rest
abbrev pub invariant-loop-first : goal.invariant-loop-first
invariant-loop-first l = choices_in l.text ≡ put_before l.choices.items (choices_in l.rest)

abbrev pub decreases-loop-first : goal.decreases-loop-first
decreases-loop-first l = length l.rest
