use Rattle.std.proofs.Common.{◌≡◌, ◌≤◌, ◌+◌, ◌-◌, ℕ}
use Rattle.loom_engine.specs.Runs.Body.{runs}
use Rattle.loom_engine.proofs.Runs.Bodies.{run_tree_law, unchosen_law}
use Rattle.loom.specs.Model.Settings.{explores, most_runs}
use Rattle.loom.proofs.ModelLemmas.Checking.{IsChecking}
use Rattle.loom.proofs.model.search.BodyRuns.make_rounds.Given as goal

-- the check has made rounds, and the receiver was given their runs; the store met no fault
abbrev pub invariant-loop-limit : goal.invariant-loop-limit
invariant-loop-limit g l = record {
  most : ℕ;
  few : most + l.pace.until_save ≤ l.self.builder.now.checkpoint_interval;
  interval : l.pace.interval ≡ l.self.builder.now.checkpoint_interval;
  within : l.pace.runs ≤ most_runs l.self.builder.now;
  checking : IsChecking l.self.builder.now (runs g.B.Body.next (explores l.self.builder.now) l.self.builder.now.max_threads l.self.builder.now.max_steps l.self.body.now) (run_tree_law g.B.Body.next (explores l.self.builder.now) l.self.builder.now.max_threads l.self.builder.now.max_steps l.self.body.now)
      (unchosen_law g.B.Body.next (explores l.self.builder.now) l.self.builder.now.max_threads l.self.builder.now.max_steps l.self.body.now) g.R.Receiver.receives l.fn.receiver (g.S.CheckpointStore.gives l.fn.store) (g.S.CheckpointStore.holds l.store) l.path l.receiver l.pace.runs most;
  faultless : g.S.CheckpointStore.fault_count l.store ≡ g.S.CheckpointStore.fault_count l.fn.store;
}

abbrev pub decreases-loop-limit : goal.decreases-loop-limit
decreases-loop-limit g l = most_runs l.self.builder.now - l.pace.runs
