use Rattle.std.proofs.Common.{arith}
use Rattle.loom_engine.proofs.Path.WellFormed.{formed_there}
use Rattle.loom_engine.proofs.rt.path.Path.from_nodes.Goals as goal

pub append-requires-clause-well : goal.append-requires-clause-well
append-requires-clause-well c = formed_there c.args.nodes.now c.loop-node.node-index _ (omega arith) c.requires.well_formed
