use Rattle.std.proofs.Common.{◌≡◌, length, take}
use Rattle.loom_engine.specs.Path.Route.{at_rest, settings}
use Rattle.loom_engine.specs.Path.WellFormed.{AreAlike}
use Rattle.loom_engine.proofs.rt.path.Path.from_nodes.Given as goal

abbrev pub invariant-loop-node : goal.invariant-loop-node
invariant-loop-node l = record {
  passed : l.path ≡ record (at_rest (settings l.fn.search) l.fn.search.explores l.path.nodes) { position = length l.path.nodes };
  alike : AreAlike l.path.nodes (take l.node-index l.fn.nodes);
}
