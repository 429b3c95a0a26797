use Rattle.std.proofs.Common.{◌≡◌, map, take, Some}
use Rattle.serde_json.specs.View.{view}
use Rattle.loom_engine.specs.Checkpoint.Reader.{each, node_of}
use Rattle.loom_engine.proofs.rt.path.checkpoint.value.read_nodes.Given as goal

abbrev pub invariant-loop-item : goal.invariant-loop-item
invariant-loop-item l = each node_of (map view (take l.item-index l.items.items)) ≡ Some l.nodes.items
