use Rattle.loom_engine.proofs.Runs.Stored.{stores_law}
use Rattle.loom_engine.proofs.laws.views.stores_are_what_accesses_store.Goals as goal

pub returns : goal.returns
returns g c = stores_law
