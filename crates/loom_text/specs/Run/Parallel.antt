-- What a check of a test by several workers promises: its runs are those of the body, each once, in whatever order, and its final states
-- are their results, counted.
use Rattle.std.specs.Prelude.{ℕ, ◌≡◌, List, String, length, Some, Ok}
use Rattle.std.specs.declared.alloc.Global.{Global}
use Rattle.loom_objects.specs.declared.choice.Choice.{Choice}
use Rattle.loom_objects.specs.Tree.Tree.{Tree}
use Rattle.loom_engine.specs.Parts.Keeping.{HasMadeAll}
use Rattle.loom_engine.specs.Trees.Outcomes.{outcome as comes_to, AreRuns, choices_made}
use Rattle.loom_engine.specs.Walk.Lists.{Member, IsOnce}
use Rattle.loom_engine.specs.Walk.Runs.{Reachable}
use Rattle.loom.specs.Model.Check.{runs_in}
use Rattle.loom.specs.Model.Fresh.{machine}
use Rattle.loom.specs.Model.Settings.{search_of}
use Rattle.loom.specs.Runner.Parallel.{FailsSo}
use Rattle.loom.specs.declared.model.builder.Builder.{Builder}
use Rattle.loom.specs.declared.model.report.Report.{Report}
use Rattle.loom.specs.declared.model.report.Report.TheVariants.{Complete, Stopped, Failed}
use Rattle.loom.specs.declared.runner.parallel.Found.{Found}
use Rattle.loom.specs.declared.runner.parallel.Found.TheVariants as found
use Rattle.loom_text.specs.declared.run.check.Outcome.{Outcome}
use Rattle.loom_text.specs.declared.run.layout.Layout.{Layout}
use Rattle.loom_text.specs.declared.test.Test.{Test}
use Rattle.loom_text.specs.Run.Covered.{AreCounted}

-- what was found, as a report: where it stopped, with some text of a checkpoint
abbrev pub IsReportOf : Found → Report → Type 0
IsReportOf (found.Complete count) report = report ≡ Complete count
IsReportOf (found.Stopped count limit) report = (checkpoint : String Global) × (report ≡ Stopped count limit checkpoint)
IsReportOf (found.Failed count failure choices) report = report ≡ Failed count failure choices

module _ (b : Builder) (tree : Tree (List ℕ)) (runs : List (List Choice × List ℕ)) where
  -- these are runs of the body that are reachable, each once
  pub record AreSome : Type 0 where
    pub are_runs : AreRuns b.max_branches tree runs
    pub once : IsOnce (choices_made runs)
    pub reachable : (choices : List Choice) → Member choices (choices_made runs) → Reachable (machine (search_of b) tree) choices

  -- they are all that are reachable, each once, and none of these fails
  pub record AreAll : Type 0 where
    pub are_runs : AreRuns b.max_branches tree runs
    pub all : HasMadeAll (machine (search_of b) tree) (choices_made runs)
    pub none_fails : (choices : List Choice) → Reachable (machine (search_of b) tree) choices → (numbers : List ℕ) × (comes_to b.max_branches tree choices ≡ Some (Ok numbers))

  -- what the report says of these runs, with choices and main's results
  abbrev pub SaysOf : Report → Type 0
  SaysOf (Complete count) = AreAll
  SaysOf (Stopped count limit checkpoint) = AreSome
  SaysOf (Failed count failure choices) = AreSome × FailsSo b tree (choices_made runs) failure.kind choices.items

pub record IsShared (b : Builder) (tree : Tree (List ℕ)) (test : Test) (layout : Layout) (found : Outcome) : Type 0 where
  -- the runs that were made and count
  pub runs : List (List Choice × List ℕ)
  pub says : SaysOf b tree runs found.report
  pub many : length runs ≡ runs_in found.report
  pub counted : AreCounted test layout runs found.counts
