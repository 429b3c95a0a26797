use Rattle.loom_engine.proofs.Runs.Reaching.{atomic_reaching_law}
use Rattle.loom_engine.proofs.laws.views.loads_and_stores_are_known_by_reaching.Goals as goal

pub returns : goal.returns
returns g c = atomic_reaching_law
