use Rattle.loom_engine.proofs.Trees.Replaying.{replay_law}
use Rattle.loom_engine.proofs.laws.tree.replayed_run.Goals as goal

pub returns : goal.returns
returns g c = replay_law
