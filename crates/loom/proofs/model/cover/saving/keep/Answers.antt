use Rattle.std.proofs.Common.{inr, arith}
use Rattle.loom.proofs.model.cover.saving.keep.Goals as goal

pub returns-clause-kept : goal.returns-clause-kept
returns-clause-kept g c = inr (omega (arith, c.requires.interval), c.in_ok-save.ensures.saved)
