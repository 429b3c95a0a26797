-- The builder that a command line's settings make of another.
use Rattle.std.specs.Option.{option_or, unwrap_or}
use Rattle.loom.specs.declared.model.builder.Builder.{Builder}
use Rattle.loom_examples.specs.declared.rows.changes.Changes.{Changes}

-- each setting that the command line names is as it says, and each other one as it was
abbrev pub changed : Changes → Builder → Builder
changed c b = record b {
  max_threads = unwrap_or c.max_threads b.max_threads;
  max_branches = unwrap_or c.max_branches b.max_branches;
  max_steps = unwrap_or c.max_steps b.max_steps;
  max_permutations = option_or c.max_permutations b.max_permutations;
  max_duration = option_or c.max_duration b.max_duration;
  reduce = unwrap_or c.reduce b.reduce;
  preemption_bound = option_or c.preemption_bound b.preemption_bound;
  checkpoint_interval = unwrap_or c.checkpoint_interval b.checkpoint_interval;
  expect_explicit_explore = unwrap_or c.expect_explicit_explore b.expect_explicit_explore;
  snapshots = unwrap_or c.snapshots b.snapshots;
}
