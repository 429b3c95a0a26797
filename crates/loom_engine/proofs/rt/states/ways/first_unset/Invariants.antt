use Rattle.std.proofs.Common.{◌≡◌, ◌<◌, true, ℕ, Some}
use Rattle.std.specs.Prelude.{slice_get}
use Rattle.loom_engine.proofs.rt.states.ways.first_unset.Given as goal

-- those so far are set
abbrev pub invariant-loop-number : goal.invariant-loop-number
invariant-loop-number l = (n : ℕ) → n < l.number → slice_get l.set n ≡ Some true
