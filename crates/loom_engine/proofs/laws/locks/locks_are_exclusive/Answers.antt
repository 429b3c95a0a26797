use Rattle.loom_engine.proofs.Runs.Exclusive.{locks_law}
use Rattle.loom_engine.proofs.laws.locks.locks_are_exclusive.Goals as goal

pub returns : goal.returns
returns g c = locks_law
