use Rattle.std.proofs.Common.{◌≡◌, map, take}
use Rattle.serde_json.specs.View.{view}
use Rattle.loom_engine.specs.Checkpoint.Grammar.{node_data}
use Rattle.loom_engine.proofs.rt.path.checkpoint.write.write_nodes.Given as goal

abbrev pub invariant-loop-node : goal.invariant-loop-node
invariant-loop-node l = map view l.items.items ≡ map node_data (take l.node-index l.nodes)
