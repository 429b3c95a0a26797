use Rattle.std.proofs.Common.{◌≡◌, ◌≤◌, ◌+◌, ◌-◌, ℕ}
use Rattle.std.specs.Fn.{CalledAtMut}
use Rattle.loom.specs.Model.Settings.{most_runs}
use Rattle.loom.specs.Runner.Check.{limits_of}
use Rattle.loom.proofs.Closures.Alike.{AlikeSoFar}
use Rattle.loom.proofs.Closures.Reporting.{IsChecking}
use Rattle.loom.proofs.runner.rounds.make_rounds.Given as goal

-- the runs that were given so far, after which the next one begins with the path; each of them is like the one before; the store met
-- no fault
abbrev pub invariant-loop-limit : goal.invariant-loop-limit
invariant-loop-limit g l = record {
  callable : goal.F-IsAlwaysCallable g l.closure;
  most : ℕ;
  few : most + l.pace.until_save ≤ l.builder.checkpoint_interval;
  interval : l.pace.interval ≡ l.builder.checkpoint_interval;
  within : l.pace.runs ≤ most_runs l.builder;
  checking : IsChecking (CalledAtMut g.F.FnMut) g.V.Visitor.takes l.builder (g.S.CheckpointStore.gives l.fn.store) l.fn.closure l.fn.visitor (g.S.CheckpointStore.holds l.store) l.closure l.visitor l.path l.pace.runs most;
  alike : AlikeSoFar (CalledAtMut g.F.FnMut) g.V.Visitor.takes (limits_of l.builder) l.fn.closure l.closure l.last l.pace.runs;
  faultless : g.S.CheckpointStore.fault_count l.store ≡ g.S.CheckpointStore.fault_count l.fn.store;
}

abbrev pub decreases-loop-limit : goal.decreases-loop-limit
decreases-loop-limit g l = most_runs l.builder - l.pace.runs
