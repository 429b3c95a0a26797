use Rattle.loom_engine.proofs.Runs.Stored.{mutation_law}
use Rattle.loom_engine.proofs.laws.views.mutations_change_the_newest_store.Goals as goal

pub returns : goal.returns
returns g c = mutation_law
