-- Runs one after another that are alike.
use Rattle.std.proofs.Common.{◌≡◌, ◌+◌, ◌∙◌, ℕ, List, [], ◌∷◌, length, inl, inr, refl, sym, subst, arith, Option, Some, None, IfOk, Result, Ok, Err}
use Rattle.std.specs.Prelude.{◌≢◌, Vec, slice_get}
use Rattle.std.specs.declared.alloc.Global.{Global}
use Rattle.loom_views.specs.declared.rt.failure.FailureKind.TheVariants.{NotDeterministic}
use Rattle.loom_objects.specs.declared.choice.Choice.{Choice}
use Rattle.loom_objects.specs.declared.failure.Failure.{Failure}
use Rattle.loom_engine.specs.declared.rt.execution.Limits.{Limits}
use Rattle.loom_engine.specs.Path.Route.{Route, chosen}
use Rattle.loom.specs.declared.model.error.CheckError.{CheckError}
use Rattle.loom.specs.declared.model.error.CheckError.TheVariants.{MaxThreads, MaxBranches, PreemptionBound, CheckpointInterval, MaxSteps, NotANumber, NotJson, WrongShape, WrongVersion, OtherSettings, TooManyNodes, BadNode, Store, Memory}
use Rattle.loom.specs.declared.model.report.Report.TheVariants as report
use Rattle.loom.specs.declared.runner.error.Changed.{Changed}
use Rattle.loom.specs.declared.runner.error.RunnerError.{RunnerError}
use Rattle.loom.specs.declared.runner.error.RunnerError.TheVariants as error
use Rattle.loom.specs.declared.runner.run_end.RunEnd.{RunEnd}
use Rattle.loom.specs.declared.runner.run_end.RunEnd.TheVariants.{Failed, Ended}
use Rattle.loom.specs.declared.runner.stop.Stop.{Stop}
use Rattle.loom.specs.Runner.Alike.{Agree, Alike, AreAlike, Changes, Differ, Follows, IsChangedSo, ReportsAlike, Says, Trace, last_of, trace, trace_of}
use Rattle.loom.specs.Runner.Comparing.{IsChangeAt, IsParted, IsRefusedOrSays, Passes}
use Rattle.loom.specs.Runner.Errors.{of_check}
use Rattle.loom.specs.Runner.Events.{failed_by, last_event}
use Rattle.loom.specs.Runner.Handle.{Teller, newcomer}
use Rattle.loom.specs.Runner.Histories.{Log, Share}
use Rattle.loom.specs.Runner.Made.{Made}
use Rattle.loom.specs.Runner.Next.{IsNoNextRun, IsNotJudgedNext, MakesNext}
use Rattle.loom.specs.Runner.Refusals.{IsNoEnd, IsNoRun, IsNotJudged}
use Rattle.loom.specs.Runner.Run.{Checked, Judged, WasCalled}
use Rattle.loom.proofs.Closures.Refusing.{unjudged}
use Rattle.loom.proofs.RunnerLemmas.Made.{made_by, made_of}

-- ---- one run

-- what is said of a change at the first event that differs
pub says_at : {D : Type 0} (before after : Trace D) (n run : ℕ) (change : Changed) → Differ before after n → IsChangeAt run before.events after.events n change → Says before after change × (change.run ≡ run)
says_at before after n run change differ at =
    let h = at differ.old differ.new differ.met.old differ.met.new in
    (record { place = n; differ = differ; thread = h.thread; before_so = h.before_so; now_so = h.now_so }, h.run_so)

-- a run that failed agrees, unless it failed as not deterministic
pub agrees_if : {D : Type 0} (last : Trace D) (log : Log D) (choices : List Choice) (failure : Failure) → choices ≡ chosen log.now.route → Passes last (trace choices log.history) → failed_by (last_event log.history) ≡ Some failure
    → failure.kind ≢ NotDeterministic → Agree last (trace_of log)
agrees_if last log choices failure same (inl parted) failed kind = absurd (kind (subst IsParted failed parted))
agrees_if last log choices failure same (inr agree) failed kind = subst (λ (cs : List Choice). Agree last (trace cs log.history)) same agree

-- one that ended does
pub agrees : {D : Type 0} (last : Trace D) (log : Log D) (choices : List Choice) → choices ≡ chosen log.now.route → Passes last (trace choices log.history) → failed_by (last_event log.history) ≡ None → Agree last (trace_of log)
agrees last log choices same (inl parted) failed = absurd (subst IsParted failed parted)
agrees last log choices same (inr agree) failed = subst (λ (cs : List Choice). Agree last (trace cs log.history)) same agree

-- what a comparison has refused
pub unlike : {D V : Type 0} (limits : Limits) (v : V) (began : Route) (last : Trace D) (number : ℕ) (log : Log D) (told : List (Share D)) (choices : List Choice) (e : RunnerError) → choices ≡ chosen log.now.route
    → Checked limits began log told → IsRefusedOrSays last (trace choices log.history) number e → IsNotJudgedNext limits v began last number log told e v
unlike {D} {V} limits v began last number log told choices e same checked (inl memory) = inr (subst (λ (x : RunnerError). IsNotJudged limits v began log told x v) (sym memory) (inl refl))
unlike {D} {V} limits v began last number log told choices e same checked (inr (change, is, says, run)) =
    inl (change, is, checked, subst (λ (cs : List Choice). Says last (trace cs log.history) change) same says, run, refl)

module _ {D F V : Type 0} (called : F → Teller D → Result D Stop → F → Teller D → Type 0) (takes : V → List Choice → D → V → Type 0) where
  -- what the state at a run's end gives no end of
  pub unjudged_next : (limits : Limits) (f f' : F) (v v' : V) (began : Route) (last : Trace D) (number : ℕ) (log : Log D) (told : List (Share D)) → WasCalled called f f' told → (e : RunnerError)
      → IsNotJudgedNext limits v began last number log told e v' → IsNoNextRun called takes limits f v began last number e v'
  unjudged_next limits f f' v v' began last number log told was e (inr without) = inr (unjudged called takes limits f f' v v' began log told was e without)
  unjudged_next limits f f' v v' began last number log told was e (inl (change, is, checked, says, run, same)) = inl (
    change,
    is,
    record {
      run = made_of called takes limits began log told was.handle was.answer;
      after = f';
      made = made_by called takes limits f f' began log told (newcomer 0) was.handle was.answer refl was.call was.main checked;
      says = says;
      number_so = run;
    },
    same,
  )

  -- a run that follows no other one hasn't changed
  pub only_run : (limits : Limits) (f : F) (v v' : V) (began : Route) (last : Trace D) (number : ℕ) (e : RunnerError) → last ≡ trace [] [] → IsNoNextRun called takes limits f v began last number e v'
      → IsNoRun called takes limits f v began e v'
  only_run limits f v v' began last number e none (inr without) = without
  only_run limits f v v' began last number e none (inl (change, is, changes, same)) =
      let differ = changes.says.differ in
      let nothing : slice_get [] changes.says.place ≡ Some differ.old = subst (λ (t : Trace D). slice_get t.events changes.says.place ≡ Some differ.old) none differ.met.old in
      absurd (cc nothing)

  -- how a run that was made follows another one
  pub next_made : {E : Type 0} (limits : Limits) (f f' : F) (v v' : V) (began : Route) (last last' : Trace D) (log : Log D) (told : List (Share D)) → WasCalled called f f' told → (result : Result RunEnd E)
      → IfOk result (λ end. Judged takes limits v began log told end v') → IfOk result (λ end. Follows last log end last') → IfOk result (λ end. MakesNext called takes limits f last end f' last')
  next_made limits f f' v v' began last last' log told was (Err e) judged follows = tt
  next_made limits f f' v v' began last last' log told was (Ok end) judged follows = (
    made_of called takes limits began log told was.handle was.answer,
    made_by called takes limits f f' began log told (newcomer 0) was.handle was.answer refl was.call was.main (settled end judged),
    follows,
  )
    where
      settled : (end : RunEnd) → Judged takes limits v began log told end v' → Checked limits began log told
      settled (Failed failure choices) j = j.0
      settled (Ended next) j = j.0

  pub no_end : (limits : Limits) (f : F) (v v' : V) (began : Route) (last : Trace D) (number : ℕ) (e : RunnerError) → IsNoNextRun called takes limits f v began last number e v' → IsNoEnd called takes limits f v began e v'
  no_end limits f v v' began last number e (inl (change, is, changes, same)) = inl (change, is, same)
  no_end limits f v v' began last number e (inr without) = inr without

-- ---- the runs of a check

one_longer : {A : Type 0} (x : A) (l : List A) (n : ℕ) → length l ≡ n → length (x ∷ l) ≡ n + 1
one_longer x l n counted = omega (arith, counted)

module _ {D F V : Type 0} (called : F → Teller D → Result D Stop → F → Teller D → Type 0) (takes : V → List Choice → D → V → Type 0) (limits : Limits) where
  -- the runs so far, so many, and what the next one is compared with
  pub record AlikeSoFar (f0 f : F) (last : Trace D) (count : ℕ) : Type 0 where
    pub runs : List (Made D)
    pub alike : Alike called takes limits f0 runs f
    pub counted : length runs ≡ count
    pub left : last ≡ last_of runs

  pub none_yet : (f : F) (last : Trace D) → last ≡ trace [] [] → AlikeSoFar f f last 0
  none_yet f last is = record { runs = []; alike = refl; counted = refl; left = is }

  module _ {f0 f : F} {last : Trace D} {count : ℕ} (so : AlikeSoFar f0 f last count) where
    one_more : (f' : F) (last' : Trace D) (next : Option Route) → MakesNext called takes limits f last (Ended next) f' last' → AlikeSoFar f0 f' last' (count + 1)
    one_more f' last' next (m, made, follows) = record {
      runs = m ∷ so.runs;
      alike = (f, so.alike, made, subst (λ (t : Trace D). Agree t (trace_of m.log)) so.left follows.0);
      counted = one_longer m so.runs count so.counted;
      left = follows.1;
    }

    pub goes_on_alike : (f' : F) (last' : Trace D) (next : Option Route) (end : RunEnd) → MakesNext called takes limits f last end f' last' → end ≡ Ended next → AlikeSoFar f0 f' last' (count + 1)
    goes_on_alike f' last' next end made is = one_more f' last' next (subst (λ (e : RunEnd). MakesNext called takes limits f last e f' last') is made)

    abbrev pub are_alike : (n : ℕ) → count ≡ n → AreAlike called takes limits f0 n
    are_alike n is = record { runs = so.runs; after = f; alike = so.alike; counted = so.counted ∙ is }

    one_failed : (f' : F) (last' : Trace D) (failure : Failure) (choices : Vec Choice Global) → MakesNext called takes limits f last (Failed failure choices) f' last'
        → ReportsAlike called takes limits f0 (report.Failed count failure choices)
    one_failed f' last' failure choices (m, made, follows) = record {
      before = are_alike count refl;
      run = m;
      after = f';
      made = made;
      failed = follows.0;
      agrees = λ kind. subst (λ (t : Trace D). Agree t (trace_of m.log)) so.left (follows.1 kind);
    }

    pub fails_alike : (f' : F) (last' : Trace D) (failure : Failure) (choices : Vec Choice Global) (end : RunEnd) → MakesNext called takes limits f last end f' last' → end ≡ Failed failure choices
        → ReportsAlike called takes limits f0 (report.Failed count failure choices)
    fails_alike f' last' failure choices end made is = one_failed f' last' failure choices (subst (λ (e : RunEnd). MakesNext called takes limits f last e f' last') is made)

    -- the next one has changed
    pub has_changed : (v v' : V) (path : Route) (number : ℕ) (e : RunnerError) → number ≡ count + 1 → IsNoNextRun called takes limits f v path last number e v' → IsChangedSo called takes limits f0 e
    has_changed v v' path number e is (inr without) change same = absurd (subst (λ (x : RunnerError). IsNoRun called takes limits f v path x v') same without)
    has_changed v v' path number e is (inl (found, said, changes, kept)) change same =
        let one : found ≡ change = cc (said, same) in
        let at : number ≡ length so.runs + 1 = omega (arith, is, so.counted) in
        let c : Changes called takes limits f last (length so.runs + 1) change =
        subst (λ (x : Changed). Changes called takes limits f last (length so.runs + 1) x) one (subst (λ (k : ℕ). Changes called takes limits f last k found) at changes) in
        record { runs = so.runs; before = f; alike = so.alike; changes = subst (λ (t : Trace D). Changes called takes limits f t (length so.runs + 1) change) so.left c }

  -- so the check is complete
  pub completes_alike : {f0 f : F} {last : Trace D} {count : ℕ} (so : AlikeSoFar f0 f last count) (f' : F) (last' : Trace D) (next : Option Route) (end : RunEnd) → MakesNext called takes limits f last end f' last' → end ≡ Ended next
      → ReportsAlike called takes limits f0 (report.Complete (count + 1))
  completes_alike {f0} {f} {last} {count} so f' last' next end made is = are_alike (goes_on_alike so f' last' next end made is) (count + 1) refl

-- an error that is no change
pub no_change : {D F V : Type 0} (called : F → Teller D → Result D Stop → F → Teller D → Type 0) (takes : V → List Choice → D → V → Type 0) (limits : Limits) (f : F) (e : RunnerError) → ((change : Changed) → e ≡ error.Changed change → ⊥)
    → IsChangedSo called takes limits f e
no_change called takes limits f e other change is = absurd (other change is)

-- the error of a check of bodies is none
pub other_error : (why : CheckError) (change : Changed) → of_check why ≡ error.Changed change → ⊥
other_error (MaxThreads given) change is = cc is
other_error (MaxBranches given) change is = cc is
other_error (PreemptionBound given) change is = cc is
other_error CheckpointInterval change is = cc is
other_error MaxSteps change is = cc is
other_error (NotANumber variable) change is = cc is
other_error NotJson change is = cc is
other_error WrongShape change is = cc is
other_error (WrongVersion version) change is = cc is
other_error (OtherSettings setting) change is = cc is
other_error (TooManyNodes count) change is = cc is
other_error BadNode change is = cc is
other_error Store change is = cc is
other_error Memory change is = cc is
