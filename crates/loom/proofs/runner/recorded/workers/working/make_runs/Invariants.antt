use Rattle.std.proofs.Common.{◌≡◌, ◌⊎◌, ◌<◌, ◌-◌}
use Rattle.loom.proofs.RunnerLemmas.RecordedWorkers.{IsPlaying}
use Rattle.loom.proofs.runner.recorded.workers.working.make_runs.Given as goal

-- runs of the part were made, fewer than the slice has, and the visitor was given them
abbrev pub invariant-slice : goal.invariant-slice
invariant-slice g l = record {
  playing : IsPlaying g.V.Visitor.takes l.builder l.fn.visitor l.fn.part l.recording l.visitor l.path l.runs;
  within : (l.runs ≡ 0) ⊎ (l.runs < l.slice.runs);
  same : l.part ≡ l.fn.part;
}

abbrev pub decreases-slice : goal.decreases-slice
decreases-slice g l = l.slice.runs - l.runs
