use Rattle.std.proofs.Common.{◌≡◌, ℕ, ◌<◌, slice_get, Some}
use Rattle.loom.specs.Runner.Events.{part, share}
use Rattle.loom.proofs.runner.history.shares.are_shares.Given as goal

abbrev pub invariant-loop-k : goal.invariant-loop-k
invariant-loop-k g l = (n : ℕ) → n < l.k → slice_get l.told n ≡ Some (share n (part n l.events))
