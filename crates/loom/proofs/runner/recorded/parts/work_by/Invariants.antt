use Rattle.std.proofs.Common.{◌≡◌, ◌⊎◌, ◌<◌, ◌-◌}
use Rattle.std.specs.Fn.{CalledAtMut}
use Rattle.loom.specs.Runner.Check.{limits_of}
use Rattle.loom.proofs.RunnerLemmas.RecordedParts.{IsRecordedPart}
use Rattle.loom.proofs.runner.recorded.parts.work_by.Given as goal

-- runs of the part were made, fewer than the slice has, some of them of the closure, and the visitor was given them
abbrev pub invariant-slice : goal.invariant-slice
invariant-slice g l = record {
  callable : goal.F-IsAlwaysCallable g l.closure;
  limits : l.recorder.limits ≡ limits_of l.builder;
  locations : l.recorder.keeps_locations ≡ l.builder.location;
  working : IsRecordedPart (CalledAtMut g.F.FnMut) g.V.Visitor.takes l.builder l.fn.closure l.fn.visitor l.fn.part l.closure l.visitor l.recorder.recording l.path l.runs;
  within : (l.runs ≡ 0) ⊎ (l.runs < l.slice.runs);
  same : l.part ≡ l.fn.part;
}

abbrev pub decreases-slice : goal.decreases-slice
decreases-slice g l = l.slice.runs - l.runs
