-- A tree of runs is a machine for walks, and what a schedule marks.
use Rattle.std.specs.Prelude.{ℕ, ◌≡◌, ◌≢◌, ◌≤◌, true, false, List, ◌++◌, Option, Some, None, slice_get, IsSomeAnd, Result, ◌↔◌}
use Rattle.loom_views.specs.declared.rt.failure.FailureKind.{FailureKind}
use Rattle.loom_objects.specs.declared.choice.Choice.{Choice}
use Rattle.loom_objects.specs.Tree.Question.{Made, Question}
use Rattle.loom_objects.specs.Tree.Tree.{Tree}
use Rattle.loom_engine.specs.Walk.Runs.{Reachable}
use Rattle.loom_engine.specs.Walk.Sound.{IsMachine}
use Rattle.loom_engine.specs.Trees.Marks.{marking}
use Rattle.loom_engine.specs.Trees.Meeting.{Settings, Marking, count, front_of, machine_of}
use Rattle.loom_engine.specs.Trees.Outcomes.{outcome, passed}
use Rattle.loom_engine.specs.Trees.Sound.{IsSoundTree}
use Rattle.loom_engine.specs.Trees.Exploring.{ExploresTree}

-- marks are made only at nodes that were passed, where the run explores
abbrev pub IsMarking : Marking → Type 0
IsMarking adds = (passes : List (Made × Choice)) (question : Question) (k : ℕ) (o : Choice) → adds passes question k o ≡ true
    → IsSomeAnd (slice_get passes k) (λ pass. pass.0.exploring ≡ true)

-- marks are made only at nodes whose preemption count isn't the bound
abbrev pub IsMarkingBelow : ℕ → Marking → Type 0
IsMarkingBelow bound adds = (passes : List (Made × Choice)) (question : Question) (k : ℕ) (o : Choice) → adds passes question k o ≡ true
    → count (front_of k passes) ≢ bound

-- A tree of runs with sound questions is a machine for walks.
abbrev pub MachineLaw : Type 0 → Type 0
MachineLaw A = (s : Settings) (adds : Marking) (tree : Tree A) → IsSoundTree tree → IsMarking adds → IsMachine (machine_of s adds tree)

-- With a bound, and marks that are made at nodes that are not at it, no run that is reachable passes it at any node.
abbrev pub BoundLaw : Type 0 → Type 0
BoundLaw A = (s : Settings) (adds : Marking) (tree : Tree A) (bound : ℕ) → IsSoundTree tree → IsMarking adds → s.bound ≡ Some bound → IsMarkingBelow bound adds
    → (x : List Choice) → Reachable (machine_of s adds tree) x → (before rest : List Choice) → x ≡ before ++ rest → count (passed tree before) ≤ bound

-- In a search that isn't reduced or bounded, of a tree that explores throughout, each run is reachable.
abbrev pub EveryRunLaw : Type 0 → Type 0
EveryRunLaw A = (s : Settings) (adds : Marking) (tree : Tree A) → IsSoundTree tree → IsMarking adds → s.reduce ≡ false → s.bound ≡ None → ExploresTree tree
    → (x : List Choice) → Reachable (machine_of s adds tree) x ↔ ((o : Result A FailureKind) × (outcome s.max_branches tree x ≡ Some o))

-- the same search, not reduced
abbrev pub unreduced : Settings → Settings
unreduced s = record s { reduce = false }

-- Each run that is reachable in a reduced search is so in the search with the same bound that isn't reduced, where no mark
-- is made at a node whose count is the bound: counts never pass the bound, so such a node is below it.
abbrev pub ReducedLaw : Type 0 → Type 0
ReducedLaw A = (s : Settings) (adds : Marking) (tree : Tree A) → IsSoundTree tree → IsMarking adds → ((bound : ℕ) → s.bound ≡ Some bound → IsMarkingBelow bound adds)
    → (x : List Choice) → Reachable (machine_of s adds tree) x → Reachable (machine_of (unreduced s) adds tree) x

-- These marks are made only where the run explores, and the count isn't the bound.
abbrev pub MarkingLaw : Type 0
MarkingLaw = (bound : Option ℕ) → IsMarking (marking bound) × ((b : ℕ) → bound ≡ Some b → IsMarkingBelow b (marking bound))
