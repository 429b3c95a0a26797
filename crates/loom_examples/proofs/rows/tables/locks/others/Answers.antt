use Rattle.std.proofs.Common.{refl}
use Rattle.loom_examples.proofs.rows.tables.locks.others.Goals as goal

pub returns : goal.returns
returns c = refl
