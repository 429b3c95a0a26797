-- How rows are named: a name, what it means, and the settings by which this is checked.
use Rattle.std.specs.Prelude.{ℕ, List, Some, None, true, false}
use Rattle.loom_examples.specs.Scripts.Written.{Written}
use Rattle.loom_examples.specs.Rows.Meanings.{Steps, Updates, Named}
use Rattle.loom_examples.specs.declared.rows.settings.Settings.{Settings}

-- the settings that a builder begins with
abbrev pub defaults : Settings
defaults = record {
  max_threads = 5;
  max_branches = 1000;
  max_steps = 1000000;
  max_permutations = None;
  reduce = true;
  preemption_bound = None;
  expect_explicit_explore = false;
}

-- the defaults, but each schedule tries every thread that can go on
abbrev pub whole_search : Settings
whole_search = record defaults { reduce = false }

-- such a whole search, of two runs at most
abbrev pub two_runs : Settings
two_runs = record whole_search { max_permutations = Some 2 }

-- the defaults, but the threads of a run hand over ten operations at most
abbrev pub ten_steps : Settings
ten_steps = record defaults { max_steps = 10 }

-- the defaults, but a run may have 100,000 nodes
abbrev pub long_runs : Settings
long_runs = record defaults { max_branches = 100000 }

-- the defaults, but a run may have three nodes
abbrev pub three_nodes : Settings
three_nodes = record defaults { max_branches = 3 }

-- the defaults, but a run has one preemption at most
abbrev pub one_preemption : Settings
one_preemption = record defaults { preemption_bound = Some 1 }

-- each schedule tries every thread that can go on, from where a run begins to explore
abbrev pub explicit_search : Settings
explicit_search = record whole_search { expect_explicit_explore = true }

-- the script of these steps, by the defaults
abbrev pub script : List ℕ → List Written → Named
script name steps = record { name = name; means = Steps steps; settings = defaults }

-- the script of these steps, by a search that isn't reduced
abbrev pub whole : List ℕ → List Written → Named
whole name steps = record { name = name; means = Steps steps; settings = whole_search }

-- the script of these steps, of which two runs are made at most
abbrev pub limited : List ℕ → List Written → Named
limited name steps = record { name = name; means = Steps steps; settings = two_runs }

-- the script of these steps, by ten operations at most
abbrev pub short : List ℕ → List Written → Named
short name steps = record { name = name; means = Steps steps; settings = ten_steps }

-- the script of these steps, in runs of 100,000 nodes at most
abbrev pub long : List ℕ → List Written → Named
long name steps = record { name = name; means = Steps steps; settings = long_runs }

-- the script of these steps, in runs of three nodes at most
abbrev pub few : List ℕ → List Written → Named
few name steps = record { name = name; means = Steps steps; settings = three_nodes }

-- the script of these steps, in runs of one preemption at most
abbrev pub bounded : List ℕ → List Written → Named
bounded name steps = record { name = name; means = Steps steps; settings = one_preemption }

-- the script of these steps, by a search that isn't reduced, from where a run begins to explore
abbrev pub explicit : List ℕ → List Written → Named
explicit name steps = record { name = name; means = Steps steps; settings = explicit_search }

-- the thread that updates its atomic, with these two numbers, by the defaults
abbrev pub updates : List ℕ → ℕ → ℕ → Named
updates name one other = record { name = name; means = Updates one other; settings = defaults }
