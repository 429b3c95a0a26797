use Rattle.std.proofs.Common.{refl}
use Rattle.loom_examples.proofs.rows.tables.channels.ends.Goals as goal

pub returns : goal.returns
returns c = refl
