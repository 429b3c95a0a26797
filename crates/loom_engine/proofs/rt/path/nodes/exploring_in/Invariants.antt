use Rattle.std.proofs.Common.{◌≡◌, ◌≤◌, suc, [], take}
use Rattle.loom_engine.specs.Trees.Marks.{schedules_down, from_exploring}
use Rattle.loom_engine.specs.Path.Nearest.{passes_in}
use Rattle.loom_engine.proofs.rt.path.nodes.exploring_in.Given as goal

-- none of the schedules that were passed over explores
abbrev pub invariant-loop-left : goal.invariant-loop-left
invariant-loop-left l = record {
  within : l.left ≤ l.passed;
  same : from_exploring (schedules_down 0 (suc l.place) (passes_in (take l.passed l.nodes)) []) ≡ from_exploring (schedules_down 0 l.left (passes_in (take l.passed l.nodes)) []);
}

abbrev pub decreases-loop-left : goal.decreases-loop-left
decreases-loop-left l = l.left
