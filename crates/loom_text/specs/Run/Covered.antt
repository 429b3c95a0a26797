-- What a check of a test promises that remembers states: its final states are the results of the runs that ended, counted, and each
-- run of the body comes to one of these results, or fails by its length.
use Rattle.std.specs.Prelude.{ℕ, ◌≡◌, List, length, map}
use Rattle.std.specs.declared.time.Duration.{Duration}
use Rattle.loom_objects.specs.declared.choice.Choice.{Choice}
use Rattle.loom.specs.Model.Covered.{Claims, runs_in}
use Rattle.loom.specs.declared.model.builder.Builder.{Builder}
use Rattle.loom_text.specs.declared.run.cover.Covering.{Covering}
use Rattle.loom_text.specs.declared.run.layout.Layout.{Layout}
use Rattle.loom_text.specs.declared.run.tally.Counts.{Counts}
use Rattle.loom_text.specs.declared.test.Test.{Test}
use Rattle.loom_text.specs.Run.Check.{tally_of}
use Rattle.loom_text.specs.Run.Running.{Running}
use Rattle.loom_text.specs.Run.Thread.{next_of}

-- these runs' results are counted
pub record AreCounted (test : Test) (layout : Layout) (runs : List (List Choice × List ℕ)) (counted : Counts) : Type 0 where
  pub states : counted.states.items ≡ (tally_of test layout (map (λ run. run.1) runs)).states
  pub positive : counted.positive ≡ (tally_of test layout (map (λ run. run.1) runs)).positive
  pub negative : counted.negative ≡ (tally_of test layout (map (λ run. run.1) runs)).negative

pub record IsCovering (b : Builder) (answered : Duration → Type 0) (main : Running) (test : Test) (layout : Layout) (found : Covering) : Type 0 where
  -- the runs that ended
  pub runs : List (List Choice × List ℕ)
  pub claims : Claims b next_of main runs answered found.covered
  pub many : length runs ≡ runs_in found.covered
  pub counted : AreCounted test layout runs found.counts
