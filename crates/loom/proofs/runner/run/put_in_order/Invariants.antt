use Rattle.std.proofs.Common.{◌≡◌}
use Rattle.std.specs.Prelude.{slice_get, vec_len}
use Rattle.loom.proofs.runner.run.put_in_order.Given as goal

-- the first list stays
abbrev pub invariant-loop-k : goal.invariant-loop-k
invariant-loop-k g l = (slice_get l.told.items 0 ≡ slice_get l.fn.told.items 0) × (vec_len l.told ≡ vec_len l.fn.told)
