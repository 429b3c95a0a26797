use Rattle.std.proofs.Common.{◌≡◌, ◌≤◌, length}
use Rattle.loom_engine.specs.Walk.Path.{step}
use Rattle.loom_engine.specs.Path.Nodes.{AreWell}
use Rattle.loom_engine.specs.Path.Nodes.{stored}
use Rattle.loom_engine.specs.Path.Tallies.{AreNoted}
use Rattle.loom_engine.proofs.rt.path.nodes.step_nodes.Given as goal

-- the nodes that are left are the first ones, and what they lead to is what all lead to
abbrev pub invariant-loop-nodes : goal.invariant-loop-nodes
invariant-loop-nodes l = record {
  well : AreWell l.nodes;
  noted : AreNoted l.nodes;
  fewer : length l.nodes ≤ length l.fn.nodes;
  same : step (stored l.fn.nodes) ≡ step (stored l.nodes);
}

abbrev pub decreases-loop-nodes : goal.decreases-loop-nodes
decreases-loop-nodes l = length l.nodes
