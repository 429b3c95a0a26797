-- What a complete check of all runs says of each run.
use Rattle.std.proofs.Common.{◌≡◌, ◌≢◌, ℕ, ◌+◌, ◌<◌, ◌&&◌, Bool, true, false, not, List, [], ◌∷◌, map, take, Option, Some, None, Result, Ok, Err, refl, sym, ap, ◌∙◌, subst, inl, inr, arith, eq-eqb}
use Rattle.std.specs.Prelude.{is_none}
use Rattle.std.proofs.lemmas.Bool.{and_parts}
use Rattle.loom_objects.specs.declared.choice.Choice.{Choice}
use Rattle.loom_objects.specs.Tree.Tree.{Tree}
use Rattle.loom_views.specs.declared.rt.failure.FailureKind.{FailureKind}
use Rattle.loom_engine.specs.Runs.Body.{runs}
use Rattle.loom_engine.specs.Trees.Exploring.{ExploresTree}
use Rattle.loom_engine.specs.Trees.Outcomes.{outcome as comes_to, AreRuns, choices_made}
use Rattle.loom_engine.specs.Trees.Marks.{marking}
use Rattle.loom_engine.specs.Trees.Reported.{HasCompleted}
use Rattle.loom_engine.specs.Walk.Lists.{Member}
use Rattle.loom_engine.specs.Walk.Runs.{Reachable}
use Rattle.loom_engine.proofs.Runs.Bodies.{run_tree_law}
use Rattle.loom_engine.proofs.Runs.Exploring.{explores_law}
use Rattle.loom_engine.proofs.Trees.Counting.{every_run_law}
use Rattle.loom_engine.proofs.Trees.Marks.{marking_law}
use Rattle.loom.specs.Model.Fresh.{machine}
use Rattle.loom.specs.Model.Settings.{explores, search_of}
use Rattle.loom.specs.declared.model.builder.Builder.{Builder}
use Rattle.loom.specs.declared.model.report.Report.{Report}
use Rattle.loom_text.specs.declared.run.check.Outcome.{Outcome}
use Rattle.loom_text.specs.declared.run.layout.Layout.{Layout}
use Rattle.loom_text.specs.declared.test.Test.{Test}
use Rattle.loom_text.specs.Run.Check.{Says, is_whole, tally_of}
use Rattle.loom_text.specs.Run.Counted.{Counted}
use Rattle.loom_text.specs.Run.Covered.{AreCounted}
use Rattle.loom_text.specs.Run.Laws.{EachRunLaw, NoneMeets, SaysOfEachRun, SharedRunLaw, runs_by, runs_of, showing}
use Rattle.loom_text.specs.Run.Operators.{truth}
use Rattle.loom_text.specs.Run.Parallel.{AreAll, SaysOf}
use Rattle.loom_text.specs.Run.Running.{Running}
use Rattle.loom_text.specs.Run.States.{counts, is_positive, is_same}
use Rattle.loom_text.specs.Run.Thread.{next_of}
use Rattle.loom_text.proofs.LawLemmas.{never_law, states_law}
use Rattle.loom_text.proofs.SwitchLemmas.{never_switches}

is_false : (x : Bool) → not x ≡ true → x ≡ false
is_false false h = refl
is_false true h = absurd (cc h)

has_none : (x : Option ℕ) → is_none x ≡ true → x ≡ None
has_none None h = refl
has_none (Some n) h = absurd (cc h)

parts : (b : Builder) → is_whole b ≡ true → ((not b.reduce && is_none b.preemption_bound) ≡ true) × (not b.expect_explicit_explore ≡ true)
parts b whole = and_parts (not b.reduce && is_none b.preemption_bound) (not b.expect_explicit_explore) whole

every : (b : Builder) → is_whole b ≡ true → b.reduce ≡ false
every b whole = is_false b.reduce (and_parts (not b.reduce) (is_none b.preemption_bound) (parts b whole).0).0

unbounded : (b : Builder) → is_whole b ≡ true → b.preemption_bound ≡ None
unbounded b whole = has_none b.preemption_bound (and_parts (not b.reduce) (is_none b.preemption_bound) (parts b whole).0).1

explicit : (b : Builder) → is_whole b ≡ true → b.expect_explicit_explore ≡ false
explicit b whole = is_false b.expect_explicit_explore (parts b whole).1

throughout : (b : Builder) (main : Running) → b.expect_explicit_explore ≡ false → ExploresTree (runs_by b main)
throughout b main h =
    let does : explores b ≡ true = ap not h in
    subst (λ e. ExploresTree (runs next_of e b.max_threads b.max_steps main)) (sym does) (explores_law next_of b.max_threads b.max_steps main never_switches)

-- ---- a run that was made

same_numbers : (numbers : List ℕ) → is_same numbers numbers ≡ true
same_numbers [] = refl
same_numbers (n ∷ numbers) = rw (eq-eqb n n refl) (same_numbers numbers)

pub shows_itself : (test : Test) (layout : Layout) (numbers : List ℕ) → counts test layout numbers ≡ true → truth (counts test layout numbers && is_same (take layout.shown numbers) (take layout.shown numbers)) ≡ 1
shows_itself test layout numbers h = rw (h, same_numbers (take layout.shown numbers)) refl

module _ (test : Test) (layout : Layout) (room : ℕ) (tree : Tree (List ℕ)) (choices : List Choice) (numbers : List ℕ) (comes : comes_to room tree choices ≡ Some (Ok numbers)) where
  its_value : (run : List Choice × List ℕ) → comes_to room tree run.0 ≡ Some (Ok run.1) → choices ≡ run.0 → run.1 ≡ numbers
  its_value run is e =
      let both : Some (Ok run.1) ≡ Some (Ok numbers) = sym is ∙ ap (λ x. comes_to room tree x) (sym e) ∙ comes in
      cc both

  shown_among : (runs : List (List Choice × List ℕ)) → AreRuns room tree runs → Member choices (choices_made runs) → counts test layout numbers ≡ true
      → 0 < showing test layout (take layout.shown numbers) (map (λ run. run.1) runs)
  shown_among [] are m h = absurd m
  shown_among (run ∷ runs) are (inl e) h =
      let there = shows_itself test layout numbers h in
      subst (λ v. 0 < truth (counts test layout v && is_same (take layout.shown v) (take layout.shown numbers)) + showing test layout (take layout.shown numbers) (map (λ r. r.1) runs))
      (sym (its_value run are.0 e)) (omega (arith, there))
  shown_among (run ∷ runs) are (inr m) h = let rest = shown_among runs are.1 m h in omega (arith, rest)

  none_among : (runs : List (List Choice × List ℕ)) → AreRuns room tree runs → Member choices (choices_made runs) → NoneMeets test layout (map (λ run. run.1) runs)
      → counts test layout numbers ≡ true → is_positive test layout numbers ≡ false
  none_among [] are m none h = absurd m
  none_among (run ∷ runs) are (inl e) none h =
      subst (λ v. counts test layout v ≡ true → is_positive test layout v ≡ false) (its_value run are.0 e) none.0 h
  none_among (run ∷ runs) are (inr m) none h = none_among runs are.1 m none.1 h

-- ---- the laws

module _ (b : Builder) (main : Running) (test : Test) (layout : Layout) (found : Outcome) (whole : is_whole b ≡ true) (runs : List (List Choice × List ℕ)) (are_runs : AreRuns b.max_branches (runs_by b main) runs)
    (all : (choices : List Choice) → Reachable (machine (search_of b) (runs_by b main)) choices → Member choices (choices_made runs))
    (ends : (choices : List Choice) → Reachable (machine (search_of b) (runs_by b main)) choices → (numbers : List ℕ) × (comes_to b.max_branches (runs_by b main) choices ≡ Some (Ok numbers)))
    (counted : AreCounted test layout runs found.counts) where
  -- a search of all runs reaches each
  reached : (choices : List Choice) (o : Result (List ℕ) FailureKind) → comes_to b.max_branches (runs_by b main) choices ≡ Some o → Reachable (machine (search_of b) (runs_by b main)) choices
  reached choices o comes =
      let sound = run_tree_law next_of (explores b) b.max_threads b.max_steps main in
      (every_run_law (search_of b) (marking b.preemption_bound) (runs_by b main) sound.sound (marking_law b.preemption_bound).0 (every b whole) (unbounded b whole) (throughout b main (explicit b whole)) choices).1 (o, comes)

  fails_none : (choices : List Choice) (kind : FailureKind) → comes_to b.max_branches (runs_by b main) choices ≢ Some (Err kind)
  fails_none choices kind = λ comes.
      let ended = ends choices (reached choices (Err kind) comes) in
      let both : Some (Err kind) ≡ Some (Ok ended.0) = sym comes ∙ ended.1 in
      cc both

  says_of_each : SaysOfEachRun b main test layout found
  says_of_each = record {
    none_fails = fails_none;
    shown = λ choices numbers comes h.
        let made = all choices (reached choices (Ok numbers) comes) in
        let some = shown_among test layout b.max_branches (runs_by b main) choices numbers comes runs are_runs made h in
        let so_many = states_law test layout (map (λ run. run.1) runs) (take layout.shown numbers) in
        let states : runs_of (take layout.shown numbers) found.counts.states.items ≡ runs_of (take layout.shown numbers) (tally_of test layout (map (λ run. run.1) runs)).states =
        ap (λ (xs : List Counted). runs_of (take layout.shown numbers) xs) counted.states in
        rw (states, so_many) some;
    never = λ none choices numbers comes h.
        let made = all choices (reached choices (Ok numbers) comes) in
        none_among test layout b.max_branches (runs_by b main) choices numbers comes runs are_runs made (never_law test layout (map (λ run. run.1) runs) (sym counted.positive ∙ none)) h;
  }

pub each_run_law : EachRunLaw
each_run_law b main test layout found count whole is complete =
    let completed : HasCompleted (search_of b) (marking b.preemption_bound) (runs_by b main) is.runs = subst (λ (r : Report). Says b (runs_by b main) is.runs r) complete is.says in
    says_of_each b main test layout found whole is.runs completed.are_runs (λ choices r. (completed.all_runs.walk.members choices).0 r) completed.none_fails
    (record { states = is.states; positive = is.positive; negative = is.negative })

pub shared_run_law : SharedRunLaw
shared_run_law b main test layout found count whole is complete =
    let all : AreAll b (runs_by b main) is.runs = subst (λ (r : Report). SaysOf b (runs_by b main) is.runs r) complete is.says in
    says_of_each b main test layout found whole is.runs all.are_runs (λ choices r. (all.all.1 choices).0 r) all.none_fails is.counted
