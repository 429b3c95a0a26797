use Rattle.std.proofs.Common.{inr, arith}
use Rattle.loom.proofs.model.saving.keep.Goals as goal

pub returns-clause-kept : goal.returns-clause-kept
returns-clause-kept g c = inr (omega (arith, c.requires.interval), (_, c.in_ok-save.ensures.saved))
