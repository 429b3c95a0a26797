-- The builders that rows are checked by.
use Rattle.std.specs.Prelude.{ℕ, ◌≡◌, List, Option, Some, None, String, string_bytes}
use Rattle.std.specs.declared.alloc.Global.{Global}
use Rattle.loom.specs.Model.Settings.{defaults}
use Rattle.loom.specs.declared.model.builder.Builder.{Builder}
use Rattle.loom_examples.specs.declared.rows.settings.Settings.{Settings}

-- a builder as it begins with, but for these settings
abbrev pub builder_of : Settings → Builder
builder_of s = record defaults {
  max_threads = s.max_threads;
  max_branches = s.max_branches;
  max_steps = s.max_steps;
  max_permutations = s.max_permutations;
  reduce = s.reduce;
  preemption_bound = s.preemption_bound;
  expect_explicit_explore = s.expect_explicit_explore;
}

-- the builder of these settings, with the checkpoint file of this name, if there is one
abbrev pub IsBuilder : Settings → Option (List ℕ) → Builder → Type 0
IsBuilder s None b = b ≡ builder_of s
IsBuilder s (Some file) b = (name : String Global) × (string_bytes name ≡ file) × (b ≡ record (builder_of s) { checkpoint_file = Some name })
