-- Which settings a check takes, and which search they make.
use Rattle.std.specs.Prelude.{ℕ, ◌||◌, ⊤, Bool, not, true, false, Option, Some, None, Result, Ok, Err, cond, nat_lt}
use Rattle.std.specs.Option.{unwrap_or}
use Rattle.loom_views.specs.Limits.{highest_count}
use Rattle.loom_engine.specs.Trees.Meeting.{Settings}
use Rattle.loom.specs.declared.model.error.CheckError.{CheckError}
use Rattle.loom.specs.declared.model.error.CheckError.TheVariants.{MaxThreads, MaxBranches, PreemptionBound, CheckpointInterval, MaxSteps}
use Rattle.loom.specs.declared.model.builder.Builder.{Builder}

-- a bound on preemptions is 255 at most
abbrev pub tested_bound : Option ℕ → Result ⊤ CheckError
tested_bound None = Ok tt
tested_bound (Some bound) = cond (nat_lt 255 bound) (Err (PreemptionBound bound)) (Ok tt)

abbrev pub and_tested : Result ⊤ CheckError → Result ⊤ CheckError → Result ⊤ CheckError
and_tested (Ok z) rest = rest
and_tested (Err e) rest = Err e

-- the first setting that is out of range is refused
abbrev pub tested : Builder → Result ⊤ CheckError
tested b =
    cond (nat_lt b.max_threads 1 || nat_lt 5 b.max_threads) (Err (MaxThreads b.max_threads))
    (cond (nat_lt b.max_branches 1 || nat_lt 1000000 b.max_branches) (Err (MaxBranches b.max_branches))
    (and_tested (tested_bound b.preemption_bound)
    (cond (nat_lt b.checkpoint_interval 1) (Err CheckpointInterval)
    (cond (nat_lt b.max_steps 1) (Err MaxSteps)
    (Ok tt)))))

-- the search that a builder asks for
abbrev pub search_of : Builder → Settings
search_of b = record { reduce = b.reduce; bound = b.preemption_bound; max_branches = b.max_branches }

-- whether its runs begin to explore
abbrev pub explores : Builder → Bool
explores b = not b.expect_explicit_explore

-- the settings that a builder begins with
abbrev pub defaults : Builder
defaults = record {
  max_threads = 5;
  max_branches = 1000;
  max_steps = 1000000;
  max_permutations = None;
  max_duration = None;
  max_different = None;
  reduce = true;
  preemption_bound = None;
  checkpoint_file = None;
  checkpoint_interval = 20000;
  expect_explicit_explore = false;
  snapshots = false;
  location = false;
  log = false;
  recorded = false;
}

-- how many runs a check makes at most
abbrev pub most_runs : Builder → ℕ
most_runs b = unwrap_or b.max_permutations highest_count
