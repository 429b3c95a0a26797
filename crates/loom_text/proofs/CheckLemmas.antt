-- From what a check promises of a visitor to what it promises of a test.
use Rattle.std.proofs.Common.{◌≡◌, ℕ, List, [], ◌∷◌, map, Option, None, ap, ◌∙◌, subst}
use Rattle.loom_objects.specs.declared.choice.Choice.{Choice}
use Rattle.loom_objects.specs.Tree.Tree.{Tree}
use Rattle.std.specs.declared.time.Duration.{Duration}
use Rattle.loom_engine.specs.declared.rt.path.node.Node.{Node}
use Rattle.loom.specs.Model.Check.{Claims, Reports, ReadsAs}
use Rattle.loom.specs.Model.Fresh.{Given}
use Rattle.loom.specs.Model.Settings.{explores, search_of}
use Rattle.loom.specs.declared.model.builder.Builder.{Builder}
use Rattle.loom.specs.declared.model.report.Report.{Report}
use Rattle.loom.specs.declared.model.report.Report.TheVariants.{Complete, Stopped, Failed}
use Rattle.loom_text.specs.declared.run.check.Outcome.{Outcome}
use Rattle.loom_text.specs.declared.run.layout.Layout.{Layout}
use Rattle.loom_text.specs.declared.test.Test.{Test}
use Rattle.loom_text.specs.Run.Check.{IsOutcome, Says, tally_of}
use Rattle.loom_text.specs.Run.Counted.{Tallied}
use Rattle.loom_text.specs.Run.States.{nothing_told, told, told_all}

-- who was given these runs has counted their results
pub given_tells : {V : Type 0} (seen : V → Tallied) (old new : V) (runs : List (List Choice × List ℕ)) → Given (λ old choices numbers new. seen new ≡ told (seen old) numbers) old runs new
    → seen new ≡ told_all (seen old) (map (λ run. run.1) runs)
given_tells seen old new [] h = ap seen h
given_tells seen old new (run ∷ runs) h =
    given_tells seen h.0 new runs h.2 ∙ ap (λ (t : Tallied). told_all t (map (λ r. r.1) runs)) h.1

-- a check without a store begins at the beginning
says_from : (b : Builder) (tree : Tree (List ℕ)) (holds : Option (List ℕ) → Type 0) (path : List Node) (runs : List (List Choice × List ℕ)) (report : Report)
    → path ≡ [] → Claims b tree holds path runs report → Says b tree runs report
says_from b tree holds path runs (Complete count) none h = h.promise.fresh none
says_from b tree holds path runs (Stopped count limit checkpoint) none h = h.goes_on.promise.fresh none
says_from b tree holds path runs (Failed count failure choices) none h = h.fresh none

no_path : (b : Builder) (text : Option (List ℕ)) (path : List Node) → text ≡ None → ReadsAs (search_of b) (explores b) text path → path ≡ []
no_path b text path none reads = subst (λ (t : Option (List ℕ)). ReadsAs (search_of b) (explores b) t path) none reads

pub outcome_from : {V : Type 0} (old new : V) (seen : V → Tallied) (b : Builder) (tree : Tree (List ℕ)) (test : Test) (layout : Layout) (gives holds : Option (List ℕ) → Type 0) (answered : Duration → Type 0) (outcome : Outcome)
    → seen old ≡ nothing_told test layout
    → ((text : Option (List ℕ)) → gives text → text ≡ None)
    → Reports (λ old choices numbers new. seen new ≡ told (seen old) numbers) old new b tree gives holds answered outcome.report
    → outcome.counts.states.items ≡ (seen new).states → outcome.counts.positive ≡ (seen new).positive → outcome.counts.negative ≡ (seen new).negative
    → IsOutcome b tree test layout outcome
outcome_from old new seen b tree test layout gives holds answered outcome begins none reports states positive negative =
    let results = map (λ (run : List Choice × List ℕ). run.1) reports.runs in
    let is : seen new ≡ tally_of test layout results =
    given_tells seen old new reports.runs reports.given.given ∙ ap (λ (t : Tallied). told_all t results) begins in
    record {
      runs = reports.runs;
      says = says_from b tree holds reports.path reports.runs outcome.report (no_path b reports.text reports.path (none reports.text reports.gave) reports.reads) reports.says;
      many = reports.given.counted;
      states = states ∙ ap (λ (t : Tallied). t.states) is;
      positive = positive ∙ ap (λ (t : Tallied). t.positive) is;
      negative = negative ∙ ap (λ (t : Tallied). t.negative) is;
    }
