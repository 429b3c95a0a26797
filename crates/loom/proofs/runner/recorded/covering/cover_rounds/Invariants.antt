use Rattle.std.proofs.Common.{◌≡◌, ◌≤◌, ◌+◌, ◌-◌, ◌^◌, ℕ, [], List}
use Rattle.loom_engine.specs.Path.Route.{at_rest}
use Rattle.loom_engine.specs.Trees.Meeting.{whole_search}
use Rattle.loom.specs.Model.Settings.{explores}
use Rattle.loom.specs.Runner.Recorded.{Function, Word, by_function}
use Rattle.loom.specs.Runner.Recording.{IsTrueOf, all_told}
use Rattle.loom.proofs.ModelLemmas.CoverRounds.{IsChecking}
use Rattle.loom.proofs.runner.recorded.covering.cover_rounds.Given as goal

-- rounds were made, which are those of each function of which the recording is true, and the visitor was given their runs; the store met
-- no fault
abbrev pub invariant-loop-limit : goal.invariant-loop-limit
invariant-loop-limit g l = record {
  within : l.runs + l.met ≤ 2 ^ 64 - 1;
  rests : l.path ≡ at_rest (whole_search l.builder.max_branches) (explores l.builder) l.path.nodes;
  checking : (does : Function _) (words : List (Word _)) → IsTrueOf does words l.recording
      → (most : ℕ) × (most + l.until_save ≤ l.builder.checkpoint_interval)
      × IsChecking l.builder (by_function does) [] g.V.Visitor.takes l.fn.visitor (g.S.CheckpointStore.gives l.fn.store) (g.S.CheckpointStore.holds l.store) l.path l.visitor l.runs most (all_told words l.states) l.ways;
  faultless : g.S.CheckpointStore.fault_count l.store ≡ g.S.CheckpointStore.fault_count l.fn.store;
}

abbrev pub decreases-loop-limit : goal.decreases-loop-limit
decreases-loop-limit g l = 2 ^ 64 - 1 - (l.runs + l.met)
