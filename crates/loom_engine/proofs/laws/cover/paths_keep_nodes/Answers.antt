use Rattle.loom_engine.proofs.Covering.Nodes.{nodes_law}
use Rattle.loom_engine.proofs.laws.cover.paths_keep_nodes.Goals as goal

pub returns : goal.returns
returns g c = nodes_law
