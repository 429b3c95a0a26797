use Rattle.loom_engine.proofs.Runs.Reaching.{cell_reaching_law}
use Rattle.loom_engine.proofs.laws.views.begun_cell_accesses_are_known_by_reaching.Goals as goal

pub returns : goal.returns
returns g c = cell_reaching_law
