-- From what a walk promises of a visitor to what it promises of a test.
use Rattle.std.proofs.Common.{◌≡◌, ℕ, List, [], ◌∷◌, ap, ◌∙◌}
use Rattle.std.specs.declared.time.Duration.{Duration}
use Rattle.loom_objects.specs.declared.choice.Choice.{Choice}
use Rattle.loom_objects.specs.Tree.Tree.{Tree}
use Rattle.loom_engine.specs.Trees.Outcomes.{choices_made}
use Rattle.loom.specs.Model.Different.{TellsDifferent}
use Rattle.loom.specs.Model.Parts.{GivenBack}
use Rattle.loom.specs.Model.Walking.{HasGiven, Walks}
use Rattle.loom.specs.declared.model.builder.Builder.{Builder}
use Rattle.loom.specs.declared.model.walk.Walk.{Walk}
use Rattle.loom.specs.declared.model.walk.Walked.{Walked}
use Rattle.loom.specs.declared.model.walk.Walked.TheVariants.{Made, Failed}
use Rattle.loom_text.specs.declared.run.layout.Layout.{Layout}
use Rattle.loom_text.specs.declared.run.walk.Seen.{Seen}
use Rattle.loom_text.specs.declared.test.Test.{Test}
use Rattle.loom_text.specs.Run.Counted.{Tallied}
use Rattle.loom_text.specs.Run.Drawn.{FailsSo, IsSeen, different_of, ended_runs, tally_back}
use Rattle.loom_text.specs.Run.States.{nothing_told, told}

module _ {V : Type 0} (old new : V) (seen : V → Tallied) (b : Builder) (tree : Tree (List ℕ)) (test : Test) (layout : Layout) where
  -- who was given these runs has counted their results
  back_tells : (runs : List (List Choice × List ℕ)) (later : V) → seen old ≡ nothing_told test layout → GivenBack (λ old choices numbers new. seen new ≡ told (seen old) numbers) old runs later
      → seen later ≡ tally_back test layout runs
  back_tells [] later begins h = ap seen h ∙ begins
  back_tells (run ∷ runs) later begins h = h.2 ∙ ap (λ (t : Tallied). told t run.1) (back_tells runs h.0 begins h.1)

  abbrev given_of : (walk : Walk) (answered : Duration → Type 0) (walked : Walked) → Walks (λ old choices numbers new. seen new ≡ told (seen old) numbers) old new b tree walk answered walked
      → HasGiven (λ old choices numbers new. seen new ≡ told (seen old) numbers) old new b tree (ended_runs walked)
  given_of walk answered (Made runs cut different) w = w.0
  given_of walk answered (Failed runs cut failure choices) w = w.0

  fails_of : (walk : Walk) (answered : Duration → Type 0) (walked : Walked) → Walks (λ old choices numbers new. seen new ≡ told (seen old) numbers) old new b tree walk answered walked → FailsSo b tree walked
  fails_of walk answered (Made runs cut different) w = tt
  fails_of walk answered (Failed runs cut failure choices) w = w.2.fails

  different_of_walk : (walk : Walk) (answered : Duration → Type 0) (walked : Walked) (w : Walks (λ old choices numbers new. seen new ≡ told (seen old) numbers) old new b tree walk answered walked)
      → TellsDifferent (different_of walked) (choices_made (given_of walk answered walked w).runs)
  different_of_walk walk answered (Made runs cut different) w = w.1
  different_of_walk walk answered (Failed runs cut failure choices) w = tt

  pub seen_from : (walk : Walk) (answered : Duration → Type 0) (found : Seen) → seen old ≡ nothing_told test layout
      → Walks (λ old choices numbers new. seen new ≡ told (seen old) numbers) old new b tree walk answered found.walked
      → found.counts.states.items ≡ (seen new).states → found.counts.positive ≡ (seen new).positive → found.counts.negative ≡ (seen new).negative → IsSeen b tree test layout found
  seen_from walk answered found begins walks states positive negative =
      let given = given_of walk answered found.walked walks in
      let is : seen new ≡ tally_back test layout given.runs = back_tells given.runs new begins given.given in
      record {
        runs = given.runs;
        drawn = given.drawn;
        many = given.counted;
        fails = fails_of walk answered found.walked walks;
        different = different_of_walk walk answered found.walked walks;
        states = states ∙ ap (λ (t : Tallied). t.states) is;
        positive = positive ∙ ap (λ (t : Tallied). t.positive) is;
        negative = negative ∙ ap (λ (t : Tallied). t.negative) is;
      }
