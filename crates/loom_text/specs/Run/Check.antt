-- What a check of a test promises: its runs are those of the body, and its final states are their results, counted.
use Rattle.std.specs.Prelude.{ℕ, ◌≡◌, ◌&&◌, Bool, not, is_none, List, map, length}
use Rattle.loom_objects.specs.declared.choice.Choice.{Choice}
use Rattle.loom_objects.specs.Tree.Tree.{Tree}
use Rattle.loom.specs.Model.Check.{runs_in}
use Rattle.loom.specs.Model.Fresh.{IsCompleteReport, IsStoppedReport, IsFailedReport}
use Rattle.loom.specs.Model.Settings.{search_of}
use Rattle.loom.specs.declared.model.builder.Builder.{Builder}
use Rattle.loom.specs.declared.model.report.Report.{Report}
use Rattle.loom.specs.declared.model.report.Report.TheVariants.{Complete, Stopped, Failed}
use Rattle.loom_text.specs.declared.run.check.Outcome.{Outcome}
use Rattle.loom_text.specs.declared.run.layout.Layout.{Layout}
use Rattle.loom_text.specs.declared.test.Test.{Test}
use Rattle.loom_text.specs.Run.Counted.{Tallied}
use Rattle.loom_text.specs.Run.States.{nothing_told, told_all}

-- it tries each option at each node: its search is neither reduced nor bounded, and explores throughout
abbrev pub is_whole : Builder → Bool
is_whole b = not b.reduce && is_none b.preemption_bound && not b.expect_explicit_explore

-- what the report says of these runs, with choices and main's results: a check from the beginning has made them
abbrev pub Says : Builder → Tree (List ℕ) → List (List Choice × List ℕ) → Report → Type 0
Says b tree runs (Complete count) = IsCompleteReport (search_of b) tree runs
Says b tree runs (Stopped count limit checkpoint) = IsStoppedReport (search_of b) tree runs
Says b tree runs (Failed count failure choices) = IsFailedReport (search_of b) tree runs failure.kind choices.items

-- what is counted of these results
abbrev pub tally_of : Test → Layout → List (List ℕ) → Tallied
tally_of test layout results = told_all (nothing_told test layout) results

pub record IsOutcome (b : Builder) (tree : Tree (List ℕ)) (test : Test) (layout : Layout) (outcome : Outcome) : Type 0 where
  -- the runs that were made, without the one that failed, if one did
  pub runs : List (List Choice × List ℕ)
  pub says : Says b tree runs outcome.report
  pub many : length runs ≡ runs_in outcome.report
  -- their results, counted
  pub states : outcome.counts.states.items ≡ (tally_of test layout (map (λ run. run.1) runs)).states
  pub positive : outcome.counts.positive ≡ (tally_of test layout (map (λ run. run.1) runs)).positive
  pub negative : outcome.counts.negative ≡ (tally_of test layout (map (λ run. run.1) runs)).negative
