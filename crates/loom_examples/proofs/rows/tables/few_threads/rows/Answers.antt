use Rattle.std.proofs.Common.{refl}
use Rattle.loom_examples.proofs.rows.tables.few_threads.rows.Goals as goal

pub returns : goal.returns
returns c = refl
