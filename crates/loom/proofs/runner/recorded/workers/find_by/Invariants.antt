use Rattle.std.proofs.Common.{◌≡◌, ◌≤◌}
use Rattle.std.specs.Fn.{CalledAtMut}
use Rattle.loom.specs.Model.Settings.{most_runs}
use Rattle.loom.specs.Runner.Check.{limits_of}
use Rattle.loom.proofs.RunnerLemmas.RecordedWorkers.{IsFinding}
use Rattle.loom.proofs.runner.recorded.workers.find_by.Given as goal

-- so many runs were made, some of them of the closure, and the search has reached the list by each function that does what was done in
-- these
abbrev pub invariant-turns : goal.invariant-turns
invariant-turns g l = record {
  callable : goal.F-IsAlwaysCallable g l.closure;
  limits : l.recorder.limits ≡ limits_of l.builder;
  within : l.runs ≤ most_runs l.builder;
  finding : IsFinding (CalledAtMut g.F.FnMut) g.V.Visitor.takes g.G.Visitors.is_new g.G.Visitors.joins l.builder l.fn.closure l.fn.parts l.fn.visitors l.closure l.recorder.recording l.parts l.visitors l.runs;
}
