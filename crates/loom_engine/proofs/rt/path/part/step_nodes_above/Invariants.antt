use Rattle.std.proofs.Common.{◌≡◌, ◌≤◌, length, take}
use Rattle.loom_engine.specs.Parts.Floors.{step_above}
use Rattle.loom_engine.specs.Path.Nodes.{AreWell, stored}
use Rattle.loom_engine.specs.Path.Tallies.{AreNoted}
use Rattle.loom_engine.proofs.rt.path.part.step_nodes_above.Given as goal

-- the nodes that are left are the first ones, and what they lead to is what all lead to
abbrev pub invariant-loop-nodes : goal.invariant-loop-nodes
invariant-loop-nodes l = record {
  well : AreWell l.nodes;
  noted : AreNoted l.nodes;
  fewer : length l.nodes ≤ length l.fn.nodes;
  front : take l.fn.floor l.nodes ≡ take l.fn.floor l.fn.nodes;
  same : step_above l.fn.floor (stored l.fn.nodes) ≡ step_above l.fn.floor (stored l.nodes);
}

abbrev pub decreases-loop-nodes : goal.decreases-loop-nodes
decreases-loop-nodes l = length l.nodes
