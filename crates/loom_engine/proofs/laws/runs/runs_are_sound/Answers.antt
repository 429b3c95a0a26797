use Rattle.loom_engine.proofs.Runs.Bodies.{run_tree_law}
use Rattle.loom_engine.proofs.laws.runs.runs_are_sound.Goals as goal

pub returns : goal.returns
returns g c = run_tree_law
