-- From what a check that remembers states promises of a visitor to what it promises of a test.
use Rattle.std.proofs.Common.{◌≡◌, ℕ, List, Option, None, map, ap, ◌∙◌}
use Rattle.std.specs.declared.time.Duration.{Duration}
use Rattle.loom_objects.specs.declared.choice.Choice.{Choice}
use Rattle.loom.specs.Model.Covered.{Covering as Covers}
use Rattle.loom.specs.declared.model.builder.Builder.{Builder}
use Rattle.loom.proofs.ModelLemmas.CoverRounds.{no_text}
use Rattle.loom_text.specs.declared.run.cover.Covering.{Covering}
use Rattle.loom_text.specs.declared.run.layout.Layout.{Layout}
use Rattle.loom_text.specs.declared.test.Test.{Test}
use Rattle.loom_text.specs.Run.Check.{tally_of}
use Rattle.loom_text.specs.Run.Counted.{Tallied}
use Rattle.loom_text.specs.Run.Covered.{IsCovering}
use Rattle.loom_text.specs.Run.Running.{Running}
use Rattle.loom_text.specs.Run.States.{nothing_told, told, told_all}
use Rattle.loom_text.specs.Run.Thread.{next_of}
use Rattle.loom_text.proofs.CheckLemmas.{given_tells}

pub covering_from : {V : Type 0} (old new : V) (seen : V → Tallied) (b : Builder) (main : Running) (test : Test) (layout : Layout) (gives holds : Option (List ℕ) → Type 0) (answered : Duration → Type 0) (found : Covering)
    → seen old ≡ nothing_told test layout → ((text : Option (List ℕ)) → gives text → text ≡ None)
    → Covers (λ old choices numbers new. seen new ≡ told (seen old) numbers) old new b next_of main gives holds answered found.covered
    → found.counts.states.items ≡ (seen new).states → found.counts.positive ≡ (seen new).positive → found.counts.negative ≡ (seen new).negative
    → IsCovering b answered main test layout found
covering_from old new seen b main test layout gives holds answered found begins none covers states positive negative =
    let results = map (λ (run : List Choice × List ℕ). run.1) covers.given in
    let is : seen new ≡ tally_of test layout results =
    given_tells seen old new covers.given covers.was_given.given ∙ ap (λ (t : Tallied). told_all t results) begins in
    record {
      runs = covers.given;
      claims = covers.fresh (no_text b covers.text covers.path (none covers.text covers.gave) covers.reads);
      many = covers.was_given.counted;
      counted = record {
        states = states ∙ ap (λ (t : Tallied). t.states) is;
        positive = positive ∙ ap (λ (t : Tallied). t.positive) is;
        negative = negative ∙ ap (λ (t : Tallied). t.negative) is;
      };
    }
