use Rattle.std.proofs.Common.{◌≡◌, ◌≤◌, ◌-◌}
use Rattle.std.specs.Fn.{CalledAtMut}
use Rattle.loom.specs.Model.Settings.{most_runs}
use Rattle.loom.specs.Runner.Check.{limits_of}
use Rattle.loom.proofs.RunnerLemmas.Rounds.{IsRecorded}
use Rattle.loom.proofs.runner.recorded.rounds.record_rounds.Given as goal

-- the runs that were made of the closure, and the check so far as one of each function that does what was done in them; the store met
-- no fault
abbrev pub invariant-loop-limit : goal.invariant-loop-limit
invariant-loop-limit g l = record {
  callable : goal.F-IsAlwaysCallable g l.closure;
  interval : l.pace.interval ≡ l.builder.checkpoint_interval;
  within : l.pace.runs ≤ most_runs l.builder;
  limits : l.recorder.limits ≡ limits_of l.builder;
  locations : l.recorder.keeps_locations ≡ l.builder.location;
  recorded : IsRecorded (CalledAtMut g.F.FnMut) g.V.Visitor.takes l.builder (g.S.CheckpointStore.gives l.fn.store) l.fn.closure l.fn.visitor (g.S.CheckpointStore.holds l.store) l.closure l.visitor l.recorder.recording l.path l.pace.runs l.pace.until_save;
  faultless : g.S.CheckpointStore.fault_count l.store ≡ g.S.CheckpointStore.fault_count l.fn.store;
}

abbrev pub decreases-loop-limit : goal.decreases-loop-limit
decreases-loop-limit g l = most_runs l.builder - l.pace.runs
