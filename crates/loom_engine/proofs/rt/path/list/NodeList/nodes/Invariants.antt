use Rattle.std.proofs.Common.{◌≡◌, take}
use Rattle.loom_engine.proofs.rt.path.list.NodeList.nodes.Given as goal

abbrev pub invariant-loop-place : goal.invariant-loop-place
invariant-loop-place l = l.nodes.items ≡ take l.place l.self
