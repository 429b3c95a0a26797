use Rattle.loom_engine.proofs.Trees.Loading.{first_run_law}
use Rattle.loom_engine.proofs.laws.tree.loaded_path.Goals as goal

pub returns : goal.returns
returns g c = first_run_law
