use Rattle.std.proofs.Common.{◌≡◌, map, take}
use Rattle.loom_engine.specs.Path.Nodes.{seen}
use Rattle.loom_engine.proofs.rt.path.choices_at.Given as goal

abbrev pub invariant-loop-place : goal.invariant-loop-place
invariant-loop-place l = l.choices.items ≡ map (λ node. (seen node).present) (take l.place l.nodes)
