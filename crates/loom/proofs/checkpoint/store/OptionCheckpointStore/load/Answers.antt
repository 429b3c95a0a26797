use Rattle.std.proofs.Common.{refl}
use Rattle.loom.proofs.checkpoint.store.OptionCheckpointStore.load.Goals as goal

pub returns-in-None-clause-given : goal.returns-in-None-clause-given
returns-in-None-clause-given g c = rw c.in-None.is refl
