use Rattle.std.proofs.Common.{inl, inr, refl}
use Rattle.loom.proofs.model.run.snapshots.keep.Goals as goal

pub returns-then-not-is_left : goal.returns-then-not-is_left
returns-then-not-is_left g c = inr refl

pub returns : goal.returns
returns g c = inl c.in_ok-keep.ensures
