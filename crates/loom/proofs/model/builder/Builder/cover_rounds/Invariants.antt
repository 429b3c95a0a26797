use Rattle.std.proofs.Common.{◌≡◌, ◌≤◌, ◌+◌, ◌-◌, ◌^◌, ℕ}
use Rattle.loom.specs.Model.CoverSnapshots.{AreLeft}
use Rattle.loom.specs.Model.Settings.{explores}
use Rattle.loom.proofs.ModelLemmas.CoverRounds.{IsChecking}
use Rattle.loom.proofs.model.builder.Builder.cover_rounds.Given as goal

-- rounds were made, and the receiver was given their runs; what is kept of them may be gone on with; the store met no fault
abbrev pub invariant-loop-limit : goal.invariant-loop-limit
invariant-loop-limit g l = record {
  most : ℕ;
  few : most + l.until_save ≤ l.self.checkpoint_interval;
  within : l.runs + l.met ≤ 2 ^ 64 - 1;
  checking : IsChecking l.self g.B.Body.next l.body g.R.Receiver.receives l.fn.receiver (g.S.CheckpointStore.gives l.fn.store) (g.S.CheckpointStore.holds l.store) l.path l.receiver l.runs most l.states l.ways;
  left : AreLeft g.B.Body.next l.self.max_branches (explores l.self) l.self.max_threads l.self.max_steps l.body l.path.nodes l.room.snapshots;
  faultless : g.S.CheckpointStore.fault_count l.store ≡ g.S.CheckpointStore.fault_count l.fn.store;
}

abbrev pub decreases-loop-limit : goal.decreases-loop-limit
decreases-loop-limit g l = 2 ^ 64 - 1 - (l.runs + l.met)
