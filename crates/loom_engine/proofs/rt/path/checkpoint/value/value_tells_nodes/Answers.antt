use Rattle.loom_engine.proofs.Checkpoint.ShapeLaws.{data_alike}
use Rattle.loom_engine.proofs.rt.path.checkpoint.value.value_tells_nodes.Goals as goal

pub returns : goal.returns
returns c = data_alike
