-- What the counted states say of the results that were counted.
use Rattle.std.specs.Prelude.{ℕ, ◌≡◌, ◌≢◌, ◌+◌, ◌<◌, ◌&&◌, Bool, true, false, cond, List, [], ◌∷◌, take, Some, Ok, Err}
use Rattle.loom_views.specs.declared.rt.failure.FailureKind.{FailureKind}
use Rattle.loom_views.specs.declared.rt.failure.FailureKind.TheVariants.{TooManySteps, TooManyVersions}
use Rattle.loom_objects.specs.declared.choice.Choice.{Choice}
use Rattle.loom_objects.specs.Tree.Tree.{Tree}
use Rattle.loom_engine.specs.Covering.World.{World, IsCalled, world_of}
use Rattle.loom_engine.specs.Runs.Body.{runs}
use Rattle.loom_engine.specs.Trees.Outcomes.{outcome as comes_to, IsRun}
use Rattle.loom.specs.Model.Settings.{explores}
use Rattle.loom.specs.declared.model.builder.Builder.{Builder}
use Rattle.loom.specs.Model.Covered.{IsCovered}
use Rattle.loom.specs.declared.model.report.Report.TheVariants.{Complete}
use Rattle.loom_text.specs.declared.run.check.Outcome.{Outcome}
use Rattle.loom_text.specs.declared.run.layout.Layout.{Layout}
use Rattle.loom_text.specs.declared.run.tally.Counts.{Counts}
use Rattle.loom_text.specs.declared.test.Test.{Test}
use Rattle.loom_text.specs.Run.Check.{IsOutcome, is_whole, tally_of}
use Rattle.loom_text.specs.Run.Counted.{Counted}
use Rattle.loom_text.specs.Run.Covered.{AreCounted}
use Rattle.loom_text.specs.Run.Operators.{truth}
use Rattle.loom_text.specs.Run.Parallel.{IsShared}
use Rattle.loom_text.specs.Run.Running.{Running}
use Rattle.loom_text.specs.Run.States.{counts, is_before, is_positive, is_same}
use Rattle.loom_text.specs.Run.Thread.{next_of}

-- how many runs the states with these numbers have
abbrev pub runs_of : List ℕ → List Counted → ℕ
runs_of numbers [] = 0
runs_of numbers (state ∷ states) = cond (is_same state.numbers numbers) state.runs 0 + runs_of numbers states

-- how many of the results count and show these numbers
abbrev pub showing : Test → Layout → List ℕ → List (List ℕ) → ℕ
showing test layout numbers [] = 0
showing test layout numbers (result ∷ results) =
    truth (counts test layout result && is_same (take layout.shown result) numbers) + showing test layout numbers results

-- these numbers are shown before each of the states
abbrev pub IsBeforeAll : List ℕ → List Counted → Type 0
IsBeforeAll numbers [] = Unit {0}
IsBeforeAll numbers (state ∷ states) = (is_before numbers state.numbers ≡ true) × IsBeforeAll numbers states

-- each state is shown before all behind it, so that none comes twice, and has a run
abbrev pub AreInOrder : List Counted → Type 0
AreInOrder [] = Unit {0}
AreInOrder (state ∷ states) = (0 < state.runs) × IsBeforeAll state.numbers states × AreInOrder states

-- none of the results that count meets the condition
abbrev pub NoneMeets : Test → Layout → List (List ℕ) → Type 0
NoneMeets test layout [] = Unit {0}
NoneMeets test layout (result ∷ results) = (counts test layout result ≡ true → is_positive test layout result ≡ false) × NoneMeets test layout results

-- The states are the results that count, as far as they are shown, each with as many runs as had it.
abbrev pub StatesLaw : Type 0
StatesLaw = (test : Test) (layout : Layout) (results : List (List ℕ)) (numbers : List ℕ)
    → runs_of numbers (tally_of test layout results).states ≡ showing test layout numbers results

-- They are in order, each once, and each has a run.
abbrev pub OrderLaw : Type 0
OrderLaw = (test : Test) (layout : Layout) (results : List (List ℕ)) → AreInOrder (tally_of test layout results).states

-- No state is shown before itself.
abbrev pub NotBeforeItselfLaw : Type 0
NotBeforeItselfLaw = (numbers : List ℕ) → is_before numbers numbers ≡ false

-- Where no result was counted as one that meets the condition, none that counts meets it.
abbrev pub NeverLaw : Type 0
NeverLaw = (test : Test) (layout : Layout) (results : List (List ℕ)) → (tally_of test layout results).positive ≡ 0
    → NoneMeets test layout results

-- ---- a complete check of all runs

-- the runs of a test's main
abbrev pub runs_by : Builder → Running → Tree (List ℕ)
runs_by b main = runs next_of (explores b) b.max_threads b.max_steps main

-- What is known of each run of the machine, whatever its choices.
module _ (b : Builder) (main : Running) (test : Test) (layout : Layout) (found : Outcome) where
  pub record SaysOfEachRun : Type 0 where
    -- none fails
    pub none_fails : (choices : List Choice) (kind : FailureKind) → comes_to b.max_branches (runs_by b main) choices ≢ Some (Err kind)
    -- its final state is shown, if it counts
    pub shown : (choices : List Choice) (numbers : List ℕ) → IsRun b.max_branches (runs_by b main) (choices, numbers) → counts test layout numbers ≡ true
        → 0 < runs_of (take layout.shown numbers) found.counts.states.items
    -- and doesn't meet the condition, where none that was counted does
    pub never : found.counts.positive ≡ 0
        → (choices : List Choice) (numbers : List ℕ) → IsRun b.max_branches (runs_by b main) (choices, numbers) → counts test layout numbers ≡ true
        → is_positive test layout numbers ≡ false

-- So it is after a complete check of all runs: the states are those of all runs of the machine, and `Never` speaks of all of them.
abbrev pub EachRunLaw : Type 0
EachRunLaw = (b : Builder) (main : Running) (test : Test) (layout : Layout) (found : Outcome) (count : ℕ) → is_whole b ≡ true
    → IsOutcome b (runs_by b main) test layout found → found.report ≡ Complete count → SaysOfEachRun b main test layout found

-- And so it is after such a check by several workers.
abbrev pub SharedRunLaw : Type 0
SharedRunLaw = (b : Builder) (main : Running) (test : Test) (layout : Layout) (found : Outcome) (count : ℕ) → is_whole b ≡ true
    → IsShared b (runs_by b main) test layout found → found.report ≡ Complete count → SaysOfEachRun b main test layout found

-- ---- a complete check that remembers states

-- a run that fails so has handed over too many operations, or has come to too many versions
abbrev pub is_length : FailureKind → Bool
is_length TooManySteps = true
is_length TooManyVersions = true
is_length kind = false

-- the runs of a test's main, of at most so many operations and of however many nodes
abbrev pub world_by : Builder → Running → ℕ → World (List ℕ)
world_by b main steps = world_of (runs next_of (explores b) b.max_threads steps main)

-- What is known of each run of the machine, however many operations it may hand over.
module _ (b : Builder) (main : Running) (test : Test) (layout : Layout) (counted : Counts) where
  pub record SaysOfEachCovered : Type 0 where
    -- one that fails is too long
    pub long : (steps : ℕ) (choices : List Choice) (kind : FailureKind) → IsCalled (world_by b main steps) choices → (world_by b main steps).outcome choices ≡ Some (Err kind) → is_length kind ≡ true
    -- its final state is shown, if it counts
    pub shown : (steps : ℕ) (choices : List Choice) (numbers : List ℕ) → IsCalled (world_by b main steps) choices → (world_by b main steps).outcome choices ≡ Some (Ok numbers)
        → counts test layout numbers ≡ true → 0 < runs_of (take layout.shown numbers) counted.states.items
    -- and doesn't meet the condition, where none that was counted does
    pub never : counted.positive ≡ 0
        → (steps : ℕ) (choices : List Choice) (numbers : List ℕ) → IsCalled (world_by b main steps) choices → (world_by b main steps).outcome choices ≡ Some (Ok numbers)
        → counts test layout numbers ≡ true → is_positive test layout numbers ≡ false

-- So it is where runs cover each run of main, as those do of a complete check that remembers states, and their results were counted:
-- the states are those of all runs of the machine, though few were made.
abbrev pub CoveredLaw : Type 0
CoveredLaw = (b : Builder) (main : Running) (test : Test) (layout : Layout) (made : List (List Choice × List ℕ)) (counted : Counts)
    → IsCovered b next_of main made → AreCounted test layout made counted → SaysOfEachCovered b main test layout counted
