use Rattle.loom_engine.proofs.Runs.Loading.{load_law}
use Rattle.loom_engine.proofs.laws.views.loads_are_told_one_of_the_last_stores.Goals as goal

pub returns : goal.returns
returns g c = load_law
