-- From what a check by several workers promises of its visitors to what it promises of a test.
use Rattle.std.proofs.Common.{◌≡◌, ℕ, List, [], ◌∷◌, map, refl, sym, ap, ◌∙◌, subst, append-nil}
use Rattle.loom_objects.specs.declared.choice.Choice.{Choice}
use Rattle.loom_objects.specs.Tree.Tree.{Tree}
use Rattle.loom_engine.specs.Parts.Keeping.{HasMadeAll, IsAt}
use Rattle.loom_engine.specs.Runs.Sound.{IsRunTree}
use Rattle.loom_engine.specs.Trees.Outcomes.{choices_made}
use Rattle.loom_engine.specs.declared.rt.parts.Parts.{Parts}
use Rattle.loom_engine.proofs.Parts.Lasting.{parts_law}
use Rattle.loom.specs.Model.Check.{runs_in}
use Rattle.loom.specs.Model.Fresh.{machine}
use Rattle.loom.specs.Model.Parts.{GivenBack}
use Rattle.loom.specs.Model.Settings.{search_of}
use Rattle.loom.specs.Runner.Parallel.{AreJoined, none, one_more, Claims, FailsSo, HasGoneOn}
use Rattle.loom.specs.declared.model.builder.Builder.{Builder}
use Rattle.loom.specs.declared.model.report.Report.{Report}
use Rattle.loom.specs.declared.runner.parallel.Found.{Found}
use Rattle.loom.specs.declared.runner.parallel.Found.TheVariants as found
use Rattle.loom.proofs.RunnerLemmas.Workers.{is_machine}
use Rattle.loom_text.specs.declared.run.check.Outcome.{Outcome}
use Rattle.loom_text.specs.declared.run.layout.Layout.{Layout}
use Rattle.loom_text.specs.declared.test.Test.{Test}
use Rattle.loom_text.specs.Run.Counted.{Counted, Tallied}
use Rattle.loom_text.specs.Run.Parallel.{AreSome, IsReportOf, IsShared, SaysOf}
use Rattle.loom_text.specs.Run.States.{added, nothing_told, told, told_all, told_each}
use Rattle.loom_text.proofs.OrderLemmas.{all_in_front, all_newest, each_added}

-- ---- what the visitors were given

module _ {G V : Type 0} (seen : G → Tallied) (results : V → List Counted) where
  -- how a part's visitor and the joined ones count
  abbrev Takes : V → List Choice → List ℕ → V → Type 0
  Takes old choices numbers new = results new ≡ added numbers (results old)

  abbrev IsNew : V → Type 0
  IsNew part = results part ≡ []

  abbrev Joins : G → V → G → Type 0
  Joins old part new = seen new ≡ told_each (seen old) (results part)

  -- what a part's visitor has counted is told as its runs' results are
  given_tells : (t : Tallied) (first last : V) (runs : List (List Choice × List ℕ)) → IsNew first → GivenBack Takes first runs last
      → told_each t (results last) ≡ told_all t (map (λ run. run.1) runs)
  given_tells t first last [] begins h = ap (told_each t) (ap results h ∙ begins)
  given_tells t first last (run ∷ runs) begins h =
      ap (told_each t) h.2 ∙ each_added t run.1 (results h.0) ∙ ap (λ (x : Tallied). told x run.1) (given_tells t first h.0 runs begins h.1)
      ∙ all_newest (λ (r : List Choice × List ℕ). r.1) t run runs

  joined_tells : (old new : G) (runs : List (List Choice × List ℕ)) → AreJoined Takes IsNew Joins old runs new → seen new ≡ told_all (seen old) (map (λ run. run.1) runs)
  joined_tells old new runs none = refl
  joined_tells old new _ (one_more runs more before after first last joined begins given joins) =
      joins ∙ given_tells (seen before) first last more begins given
      ∙ ap (λ (x : Tallied). told_all x (map (λ run. run.1) more)) (joined_tells old before runs joined) ∙ all_in_front (λ (r : List Choice × List ℕ). r.1) (seen old) runs more

-- ---- what was found

module _ {G V : Type 0} (takes : V → List Choice → List ℕ → V → Type 0) (is_new : V → Type 0) (joins : G → V → G → Type 0) (b : Builder) (tree : Tree (List ℕ)) (sound : IsRunTree tree) (old later : G) (parts : Parts) where
  abbrev runs_found : Found → ℕ
  runs_found (found.Complete count) = count
  runs_found (found.Stopped count limit) = count
  runs_found (found.Failed count failure choices) = count

  abbrev gone_in : (f : Found) → Claims takes is_new joins b tree [] old later parts f → HasGoneOn takes is_new joins b tree [] old later parts (runs_found f)
  gone_in (found.Complete count) h = h.gone
  gone_in (found.Stopped count limit) h = h
  gone_in (found.Failed count failure choices) h = h.gone

  some_in : (count : ℕ) (gone : HasGoneOn takes is_new joins b tree [] old later parts count) → AreSome b tree gone.runs
  some_in count gone =
      let law = parts_law (machine (search_of b) tree) (choices_made gone.runs) parts (is_machine b tree sound)
      (subst (λ made. IsAt (machine (search_of b) tree) made parts) (append-nil (choices_made gone.runs)) gone.comes) in
      record { are_runs = gone.are_runs; once = law.0; reachable = law.1 }

  says_in : (f : Found) (report : Report) (h : Claims takes is_new joins b tree [] old later parts f) → IsReportOf f report → SaysOf b tree (gone_in f h).runs report
  says_in (found.Complete count) report h is =
      subst (λ (r : Report). SaysOf b tree h.gone.runs r) (sym is) (record {
        are_runs = h.gone.are_runs;
        all = subst (HasMadeAll (machine (search_of b) tree)) (append-nil (choices_made h.gone.runs)) h.all;
        none_fails = h.none_fails refl;
      })
  says_in (found.Stopped count limit) report h is = subst (λ (r : Report). SaysOf b tree h.runs r) (sym is.1) (some_in count h)
  says_in (found.Failed count failure choices) report h is =
      subst (λ (r : Report). SaysOf b tree h.gone.runs r) (sym is) (
        some_in count h.gone,
        subst (λ made. FailsSo b tree made failure.kind choices.items) (append-nil (choices_made h.gone.runs)) h.so,
      )

  many_in : (f : Found) (report : Report) → IsReportOf f report → runs_found f ≡ runs_in report
  many_in (found.Complete count) report is = sym (ap runs_in is)
  many_in (found.Stopped count limit) report is = sym (ap runs_in is.1)
  many_in (found.Failed count failure choices) report is = sym (ap runs_in is)

pub shared_from : {G V : Type 0} (seen : G → Tallied) (results : V → List Counted) (old later : G) (b : Builder) (tree : Tree (List ℕ)) (test : Test) (layout : Layout) (parts : Parts) (f : Found) (outcome : Outcome)
    → IsRunTree tree → seen old ≡ nothing_told test layout → Claims (Takes seen results) (IsNew seen results) (Joins seen results) b tree [] old later parts f → IsReportOf f outcome.report
    → outcome.counts.states.items ≡ (seen later).states → outcome.counts.positive ≡ (seen later).positive → outcome.counts.negative ≡ (seen later).negative
    → IsShared b tree test layout outcome
shared_from seen results old later b tree test layout parts f outcome sound begins claims is states positive negative =
    let gone = gone_in (Takes seen results) (IsNew seen results) (Joins seen results) b tree sound old later parts f claims in
    let told_so : seen later ≡ told_all (nothing_told test layout) (map (λ (run : List Choice × List ℕ). run.1) gone.runs) =
    joined_tells seen results old later gone.runs gone.joined ∙ ap (λ (t : Tallied). told_all t (map (λ (run : List Choice × List ℕ). run.1) gone.runs)) begins in
    record {
      runs = gone.runs;
      says = says_in (Takes seen results) (IsNew seen results) (Joins seen results) b tree sound old later parts f outcome.report claims is;
      many = gone.counted ∙ many_in (Takes seen results) (IsNew seen results) (Joins seen results) b tree sound old later parts f outcome.report is;
      counted = record {
        states = states ∙ ap (λ (t : Tallied). t.states) told_so;
        positive = positive ∙ ap (λ (t : Tallied). t.positive) told_so;
        negative = negative ∙ ap (λ (t : Tallied). t.negative) told_so;
      };
    }
