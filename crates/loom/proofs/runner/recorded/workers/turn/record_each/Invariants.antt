use Rattle.std.proofs.Common.{◌≡◌}
use Rattle.std.specs.Fn.{CalledAtMut}
use Rattle.loom.specs.Runner.Check.{limits_of}
use Rattle.loom.specs.Runner.Recording.{Records}
use Rattle.loom.proofs.runner.recorded.workers.turn.record_each.Given as goal

-- runs were made of the closure and recorded
abbrev pub invariant-jobs : goal.invariant-jobs
invariant-jobs g l = record {
  callable : goal.F-IsAlwaysCallable g l.closure;
  limits : l.recorder.limits ≡ limits_of l.builder;
  records : Records (CalledAtMut g.F.FnMut) (limits_of l.builder) l.fn.closure l.fn.recorder.recording l.closure l.recorder.recording;
}
