use Rattle.loom_engine.proofs.Runs.Holding.{one_holder}
use Rattle.loom_engine.proofs.laws.locks.one_thread_has_the_data.Goals as goal

pub returns : goal.returns
returns g c = one_holder
