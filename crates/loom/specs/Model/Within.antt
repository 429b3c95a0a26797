-- Which runs of a tree a bound on preemptions leaves in.
use Rattle.std.specs.Prelude.{ℕ, ◌≡◌, ◌≢◌, ◌<◌, ◌≤◌, true, false, List, ◌∷◌, ◌++◌, Some, Result, Ok, Err, ◌↔◌}
use Rattle.loom_views.specs.declared.rt.failure.FailureKind.{FailureKind}
use Rattle.loom_objects.specs.declared.choice.Choice.{Choice}
use Rattle.loom_objects.specs.Tree.Question.{Made}
use Rattle.loom_objects.specs.Tree.Tree.{Tree}
use Rattle.loom_engine.specs.Walk.Machine.{is_thread}
use Rattle.loom_engine.specs.Walk.Runs.{Reachable}
use Rattle.loom_engine.specs.Trees.Machines.{IsMarking}
use Rattle.loom_engine.specs.Trees.Marks.{marking}
use Rattle.loom_engine.specs.Trees.Meeting.{Settings, Marking, count, machine_of}
use Rattle.loom_engine.specs.Trees.Outcomes.{met, outcome, passed}
use Rattle.loom_engine.specs.Trees.Sound.{IsSoundTree}

module _ {A : Type 0} where
  -- Each of these choices but a default's is where the run explores, and at a schedule only if that counts fewer
  -- preemptions than the bound. The room is the largest number of nodes.
  abbrev pub IsWithin : ℕ → ℕ → Tree A → List Choice → Type 0
  IsWithin bound room tree x = (before : List Choice) (o : Choice) (after : List Choice) (n : Made) → x ≡ before ++ o ∷ after → met room tree before ≡ Some n → o ≢ n.default
      → (n.exploring ≡ true) × (is_thread n.default ≡ true → count (passed tree before) < bound)

  -- the choices lead to this end
  abbrev pub Ends : ℕ → Tree A → List Choice → Type 0
  Ends room tree x = (o : Result A FailureKind) × (outcome room tree x ≡ Some o)

-- In a search that isn't reduced, with a bound, the reachable runs are all runs within the bound.
abbrev pub WithinLaw : Type 0 → Type 0
WithinLaw A = (s : Settings) (adds : Marking) (tree : Tree A) (bound : ℕ) → IsSoundTree tree → IsMarking adds → s.reduce ≡ false → s.bound ≡ Some bound
    → (x : List Choice) → Reachable (machine_of s adds tree) x ↔ (Ends s.max_branches tree x × IsWithin bound s.max_branches tree x)

-- Where none of them fails, no run within the bound does.
abbrev pub NoFailureLaw : Type 0 → Type 0
NoFailureLaw A = (s : Settings) (adds : Marking) (tree : Tree A) (bound : ℕ) → IsSoundTree tree → IsMarking adds → s.reduce ≡ false → s.bound ≡ Some bound
    → ((x : List Choice) → Reachable (machine_of s adds tree) x → (value : A) × (outcome s.max_branches tree x ≡ Some (Ok value)))
    → (x : List Choice) (failure : FailureKind) → IsWithin bound s.max_branches tree x → outcome s.max_branches tree x ≢ Some (Err failure)

-- the search of at most so many nodes that isn't reduced, with this bound
abbrev pub whole_below : ℕ → ℕ → Settings
whole_below max_branches bound = record { reduce = false; bound = Some bound; max_branches = max_branches }

-- A run that is reachable with a bound is so with each higher one.
abbrev pub RisingLaw : Type 0 → Type 0
RisingLaw A = (max_branches low high : ℕ) (tree : Tree A) → IsSoundTree tree → low ≤ high
    → (x : List Choice) → Reachable (machine_of (whole_below max_branches low) (marking (Some low)) tree) x
    → Reachable (machine_of (whole_below max_branches high) (marking (Some high)) tree) x
