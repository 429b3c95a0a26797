-- What a walk through a test promises: its runs are those of the body, by choices that were drawn, and its final states are their
-- results, counted.
use Rattle.std.specs.Prelude.{ℕ, ◌≡◌, List, [], ◌∷◌, length, Option, None, Err}
use Rattle.loom_objects.specs.declared.choice.Choice.{Choice}
use Rattle.loom_objects.specs.Tree.Tree.{Tree}
use Rattle.loom_engine.specs.Trees.Outcomes.{choices_made}
use Rattle.loom.specs.Model.Different.{TellsDifferent}
use Rattle.loom.specs.Model.Walking.{AreDrawnRuns, IsDrawnRun}
use Rattle.loom.specs.declared.model.builder.Builder.{Builder}
use Rattle.loom.specs.declared.model.walk.Walked.{Walked}
use Rattle.loom.specs.declared.model.walk.Walked.TheVariants.{Made, Failed}
use Rattle.loom_text.specs.declared.run.layout.Layout.{Layout}
use Rattle.loom_text.specs.declared.run.walk.Seen.{Seen}
use Rattle.loom_text.specs.declared.test.Test.{Test}
use Rattle.loom_text.specs.Run.Counted.{Tallied}
use Rattle.loom_text.specs.Run.States.{nothing_told, told}

-- how many runs ended without a failure
abbrev pub ended_runs : Walked → ℕ
ended_runs (Made runs cut different) = runs
ended_runs (Failed runs cut failure choices) = runs

-- how many of them differ, where that is told
abbrev pub different_of : Walked → Option ℕ
different_of (Made runs cut different) = different
different_of (Failed runs cut failure choices) = None

-- what is counted of these runs, the newest of which is first
abbrev pub tally_back : Test → Layout → List (List Choice × List ℕ) → Tallied
tally_back test layout [] = nothing_told test layout
tally_back test layout (run ∷ runs) = told (tally_back test layout runs) run.1

-- a failing run is one of the body, by the choices that are told
abbrev pub FailsSo : Builder → Tree (List ℕ) → Walked → Type 0
FailsSo b tree (Made runs cut different) = Unit {0}
FailsSo b tree (Failed runs cut failure choices) = IsDrawnRun b.max_branches tree choices.items (Err failure.kind)

pub record IsSeen (b : Builder) (tree : Tree (List ℕ)) (test : Test) (layout : Layout) (seen : Seen) : Type 0 where
  -- the runs that ended without a failure
  pub runs : List (List Choice × List ℕ)
  pub drawn : AreDrawnRuns b.max_branches tree runs
  pub many : length runs ≡ ended_runs seen.walked
  pub fails : FailsSo b tree seen.walked
  pub different : TellsDifferent (different_of seen.walked) (choices_made runs)
  -- their results, counted
  pub states : seen.counts.states.items ≡ (tally_back test layout runs).states
  pub positive : seen.counts.positive ≡ (tally_back test layout runs).positive
  pub negative : seen.counts.negative ≡ (tally_back test layout runs).negative
