use Rattle.std.proofs.Common.{◌≡◌, ◌+◌, drop}
use Rattle.loom_text.specs.Run.States.{place_in}
use Rattle.loom_text.proofs.run.tally.place_in.Given as goal

abbrev pub invariant-loop-place : goal.invariant-loop-place
invariant-loop-place l = place_in l.numbers l.states ≡ l.place + place_in l.numbers (drop l.place l.states)
