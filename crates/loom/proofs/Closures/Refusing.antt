-- Why a run gives no end, and a check no report.
use Rattle.std.proofs.Common.{◌≡◌, ◌<◌, ◌⊎◌, ℕ, List, refl, sym, subst, inl, inr, arith, length, Option, Some, None, Result, Ok, Err, IfErr}
use Rattle.std.specs.Prelude.{⊤, Vec}
use Rattle.std.specs.declared.alloc.Global.{Global}
use Rattle.std.specs.Result.{IsErrAnd}
use Rattle.loom_objects.specs.declared.choice.Choice.{Choice}
use Rattle.loom_engine.specs.declared.rt.execution.Limits.{Limits}
use Rattle.loom_engine.specs.Path.Route.{Route, chosen}
use Rattle.loom.specs.declared.model.builder.Builder.{Builder}
use Rattle.loom.specs.declared.model.error.CheckError.{CheckError}
use Rattle.loom.specs.Model.Settings.{defaults, most_runs, tested}
use Rattle.loom.specs.declared.runner.defaults.NoVisitor.{NoVisitor}
use Rattle.loom.specs.declared.runner.error.RunnerError.{RunnerError}
use Rattle.loom.specs.declared.runner.error.RunnerError.TheVariants as error
use Rattle.loom.specs.declared.runner.stop.Stop.{Stop}
use Rattle.loom.specs.declared.runner.stop.Stop.TheVariants as stop
use Rattle.loom.specs.Runner.Errors.{IsRefusedByHost, error_by, of_check}
use Rattle.loom.specs.Runner.Events.{ended, end_after, end_in, ended_by, failed_by, failing, last_event, outcome_by}
use Rattle.loom.specs.Runner.Handle.{Teller, newcomer}
use Rattle.loom.specs.Runner.Histories.{Log, Share}
use Rattle.loom.specs.Runner.Check.{limits_of}
use Rattle.loom.specs.Runner.Refusals.{CountsFaults, GivesUp, IsNoReplay, IsNoReplayAlong, IsNoReport, IsNoEnd, IsNoReportUnsaved, IsNoRun, IsNoSave, IsNotJudged}
use Rattle.loom.specs.Runner.Replay.{HasKept, following}
use Rattle.loom.specs.declared.runner.run_end.RunEnd.{RunEnd}
use Rattle.loom.specs.declared.runner.run_end.RunEnd.TheVariants.{Ended}
use Rattle.loom.specs.Runner.Run.{WasCalled, WasMade}
use Rattle.loom.specs.declared.runner.history.event.Event.{Event}
use Rattle.loom_objects.specs.declared.failure.Failure.{Failure}
use Rattle.loom_objects.specs.declared.operation.Turn.{Turn}
use Rattle.loom_objects.specs.declared.operation.Turn.TheVariants as turn
use Rattle.loom.proofs.Closures.Erring.{made_error, no_fault, settings_on}
use Rattle.loom.proofs.Closures.Reporting.{IsChecking}
use Rattle.loom.proofs.RunnerLemmas.Made.{made_by, made_of}

-- an error that a call hands on
pub handed_on : {A E : Type 0} (r : Result A E) (e : E) (P : E → Type 0) → IsErrAnd r (λ x. x ≡ e) → P e → IfErr r P
handed_on (Ok a) e P is p = tt
handed_on (Err x) e P is p = subst P (sym is) p

pub weaker : {A E : Type 0} (r : Result A E) (P Q : E → Type 0) → ((e : E) → P e → Q e) → IfErr r P → IfErr r Q
weaker (Ok a) P Q f p = tt
weaker (Err e) P Q f p = f e p

-- a run that was spoiled
pub spoiled_so : {D V : Type 0} (limits : Limits) (v : V) (began : Route) (log : Log D) (told : List (Share D)) (s : Stop) (e : RunnerError) → e ≡ error_by s → log.spoiled ≡ Some s
    → IsNotJudged limits v began log told e v
spoiled_so limits v began log told (stop.Failure failure) e is spoiled = subst (λ (x : RunnerError). IsNotJudged limits v began log told x v) (sym is) (inl (failure, spoiled), refl)
spoiled_so limits v began log told stop.Memory e is spoiled = subst (λ (x : RunnerError). IsNotJudged limits v began log told x v) (sym is) (inl refl)
spoiled_so limits v began log told stop.Refused e is spoiled = subst (λ (x : RunnerError). IsNotJudged limits v began log told x v) (sym is) refl

-- an event that is no failure and ends no run leaves it open
open_after : {D : Type 0} (out : Result (Turn D) Failure) → failing out ≡ None → ended out ≡ None → end_after out ≡ None
open_after (Ok (turn.Reply k reply)) f e = refl
open_after (Ok (turn.Start k)) f e = refl
open_after (Ok (turn.Ended value)) f e = cc e
open_after (Err failure) f e = cc f

pub is_open : {D : Type 0} (es : List (Event D)) → failed_by (last_event es) ≡ None → ended_by (last_event es) ≡ None → end_in es ≡ None
is_open {D} es = go (last_event es)
  where
    go : (o : Option (Event D)) → outcome_by failing o ≡ None → outcome_by ended o ≡ None → outcome_by end_after o ≡ None
    go None f e = refl
    go (Some x) f e = open_after x.outcome f e

module _ {D F V : Type 0} (called : F → Teller D → Result D Stop → F → Teller D → Type 0) (takes : V → List Choice → D → V → Type 0) where
  -- what the host has refused, where the visitor wasn't called
  pub by_host : (limits : Limits) (f : F) (v : V) (began : Route) (e : RunnerError) → IsRefusedByHost e → IsNoRun called takes limits f v began e v
  by_host limits f v began e (inl is) = subst (λ (x : RunnerError). IsNoRun called takes limits f v began x v) (sym is) (inl refl)
  by_host limits f v began e (inr is) = subst (λ (x : RunnerError). IsNoRun called takes limits f v began x v) (sym is) refl

  -- what the state at a run's end gives no end of
  pub unjudged : (limits : Limits) (f f' : F) (v v' : V) (began : Route) (log : Log D) (told : List (Share D)) → WasCalled called f f' told → (e : RunnerError)
      → IsNotJudged limits v began log told e v' → IsNoRun called takes limits f v began e v'
  unjudged limits f f' v v' began log told was (error.Settings why) without = without
  unjudged limits f f' v v' began log told was (error.Changed change) without = without
  unjudged limits f f' v v' began log told was error.Refused without = without
  unjudged limits f f' v v' began log told was error.NotSettled without = (record { after = f'; log = log; told = told; call = was; unsettled = without.0 }, without.1)
  unjudged limits f f' v v' began log told was error.Memory (inl same) = inl same
  unjudged limits f f' v v' began log told was error.Memory (inr came) = inr (record {
    run = made_of called takes limits began log told was.handle was.answer;
    after = f';
    began_so = refl;
    made = made_by called takes limits f f' began log told (newcomer 0) was.handle was.answer refl was.call was.main came.0;
    value = came.1;
  })

  -- no run meets a fault of the store
  pub run_faultless : {A : Type 0} (limits : Limits) (f : F) (v v' : V) (began : Route) (r : Result A RunnerError) (e : RunnerError) (old new : ℕ) → IsErrAnd r (λ x. x ≡ e)
      → IsNoEnd called takes limits f v began e v' → new ≡ old → CountsFaults r old new
  run_faultless limits f v v' began r e old new is (inl changed) same = no_fault r e old new (made_error r e is) (λ h. cc (changed.1, h)) same
  run_faultless limits f v v' began r (error.Settings why) old new is (inr without) same = absurd without
  run_faultless limits f v v' began r (error.Changed change) old new is (inr without) same = absurd without
  run_faultless limits f v v' began r error.Refused old new is (inr without) same = no_fault r error.Refused old new (made_error r error.Refused is) (λ h. cc h) same
  run_faultless limits f v v' began r error.NotSettled old new is (inr without) same = no_fault r error.NotSettled old new (made_error r error.NotSettled is) (λ h. cc h) same
  run_faultless limits f v v' began r error.Memory old new is (inr without) same = no_fault r error.Memory old new (made_error r error.Memory is) (λ h. cc h) same

  -- ---- checks

  module _ (b : Builder) (gives : Option (List ℕ) → Type 0) (faulted : Type 0) (f0 : F) (v0 : V) (holds : Option (List ℕ) → Type 0) (f : F) (v : V) (path : Route) (count most : ℕ)
      (z : IsChecking called takes b gives f0 v0 holds f v path count most) where
    breaks : (v' : V) (e : RunnerError) → ((length z.runs < most_runs b) × IsNoEnd called takes (limits_of b) f v path e v') ⊎ (IsNoSave faulted e × (v' ≡ v)) → GivesUp called takes b gives faulted f0 v0 v' e
    breaks v' e why = inr (record {
      text = z.text;
      gave = z.gave;
      path = z.start;
      reads = z.reads;
      runs = z.runs;
      before = f;
      visitor = v;
      next = path;
      given = z.given;
      why = why;
    })

    -- a check breaks off where its next run gives no end
    pub breaks_off : (v' : V) (e : RunnerError) → count < most_runs b → IsNoEnd called takes (limits_of b) f v path e v' → GivesUp called takes b gives faulted f0 v0 v' e
    breaks_off v' e few why = breaks v' e (inl (omega (arith, z.counted, few), why))

    -- or where the path isn't saved
    pub not_saved : (e : RunnerError) → IsNoSave faulted e → GivesUp called takes b gives faulted f0 v0 v e
    not_saved e why = breaks v e (inr (why, refl))

  -- a setting out of range
  pub refused : {A : Type 0} (b : Builder) (gives : Option (List ℕ) → Type 0) (faulted : Type 0) (f : F) (v v' : V) (r : Result A RunnerError) (why : CheckError) → IsErrAnd r (λ e. e ≡ of_check why)
      → tested b ≡ Err why → v' ≡ v → IfErr r (IsNoReport called takes b gives faulted f v v')
  refused b gives faulted f v v' r why is without same = settings_on b r why (IsNoReport called takes b gives faulted f v v') is without (inl (why, refl, without, same))

  -- all are in range
  pub broken : {A : Type 0} (b : Builder) (gives : Option (List ℕ) → Type 0) (faulted : Type 0) (f : F) (v v' : V) (r : Result A RunnerError) → tested b ≡ Ok tt
      → IfErr r (GivesUp called takes b gives faulted f v v') → IfErr r (IsNoReport called takes b gives faulted f v v')
  broken b gives faulted f v v' r fine without =
      weaker r (GivesUp called takes b gives faulted f v v') (IsNoReport called takes b gives faulted f v v') (λ e broke. inr (fine, broke)) without

  -- ---- where something else is known of the store's faults

  faulted_as : (faulted other : Type 0) → (faulted → other) → (e : RunnerError) → IsNoSave faulted e → IsNoSave other e
  faulted_as faulted other to e (inl is) = inl is
  faulted_as faulted other to e (inr is) = inr (is.0, to is.1)

  gives_up_as : (b : Builder) (gives : Option (List ℕ) → Type 0) (faulted other : Type 0) → (faulted → other) → (f : F) (v v' : V) (e : RunnerError) → GivesUp called takes b gives faulted f v v' e → GivesUp called takes b gives other f v v' e
  gives_up_as b gives faulted other to f v v' e (inl (same, inl is)) = inl (same, inl (faulted_as faulted other to e is))
  gives_up_as b gives faulted other to f v v' e (inl (same, inr refused)) = inl (same, inr refused)
  gives_up_as b gives faulted other to f v v' e (inr broke) = inr (record {
    text = broke.text;
    gave = broke.gave;
    path = broke.path;
    reads = broke.reads;
    runs = broke.runs;
    before = broke.before;
    visitor = broke.visitor;
    next = broke.next;
    given = broke.given;
    why = go broke.why;
  })
    where
      go : ((length broke.runs < most_runs b) × IsNoEnd called takes (limits_of b) broke.before broke.visitor broke.next e v') ⊎ (IsNoSave faulted e × (v' ≡ broke.visitor))
          → ((length broke.runs < most_runs b) × IsNoEnd called takes (limits_of b) broke.before broke.visitor broke.next e v') ⊎ (IsNoSave other e × (v' ≡ broke.visitor))
      go (inl run) = inl run
      go (inr save) = inr (faulted_as faulted other to e save.0, save.1)

  -- so with a whole check
  pub errors_as : {A : Type 0} (b : Builder) (gives : Option (List ℕ) → Type 0) (faulted other : Type 0) → (faulted → other) → (f : F) (v v' : V) (r : Result A RunnerError) → IfErr r (IsNoReport called takes b gives faulted f v v')
      → IfErr r (IsNoReport called takes b gives other f v v')
  errors_as b gives faulted other to f v v' r without = weaker r (IsNoReport called takes b gives faulted f v v') (IsNoReport called takes b gives other f v v') go without
    where
      go : (e : RunnerError) → IsNoReport called takes b gives faulted f v v' e → IsNoReport called takes b gives other f v v' e
      go e (inl out) = inl out
      go e (inr up) = inr (up.0, gives_up_as b gives faulted other to f v v' e up.1)

  -- a replay, whose visitor keeps what it is given
  pub no_replay : (limits : Limits) (f : F) (v v' : V) (start : Route) (e : RunnerError) → IsNoRun called takes limits f v start e v' → IsNoReplayAlong called limits start f e
  no_replay limits f v v' start (error.Settings why) without = absurd without
  no_replay limits f v v' start (error.Changed change) without = absurd without
  no_replay limits f v v' start error.Refused without = inl (inr refl)
  no_replay limits f v v' start error.NotSettled without = inr (refl, without.0)
  no_replay limits f v v' start error.Memory without = inl (inl refl)

-- a keeper that was given a run has kept it
pub not_kept : {D F V : Type 0} (called : F → Teller D → Result D Stop → F → Teller D → Type 0) (kept : V → Option (Vec Choice Global × D)) (limits : Limits) (f f' : F) (v v' : V) (began : Route) (next : Option Route) (end : RunEnd)
    → WasMade called (λ old choices value new. HasKept choices value (kept new)) limits f v began end f' v' → end ≡ Ended next → kept v' ≡ None → ⊥
not_kept {D} {F} {V} called kept limits f f' v v' began next end made is none =
    let w : WasMade called (λ old choices value new. HasKept choices value (kept new)) limits f v began (Ended next) f' v' =
    subst (λ (e : RunEnd). WasMade called (λ old choices value new. HasKept choices value (kept new)) limits f v began e f' v') is made in
    subst (λ (o : Option (Vec Choice Global × D)). HasKept (chosen w.0.log.now.route) w.2.value o) none w.2.taken

-- a replay by settings in range
pub no_replays : {D F A : Type 0} (called : F → Teller D → Result D Stop → F → Teller D → Type 0) (b : Builder) (given : List Choice) (f : F) (limits : Limits) (start : Route) (r : Result A RunnerError)
    → tested b ≡ Ok tt → limits ≡ limits_of b → start ≡ following b given → IfErr r (IsNoReplayAlong called limits start f) → IfErr r (IsNoReplay called b given f)
no_replays called b given f limits start r fine is along without =
    weaker r (IsNoReplayAlong called limits start f) (IsNoReplay called b given f)
    (λ e x. inr (fine, subst (λ (l : Limits). IsNoReplayAlong called l (following b given) f e) is (subst (λ (s : Route). IsNoReplayAlong called limits s f e) along x))) without

-- the defaults are in range
pub by_defaults : {D F : Type 0} (called : F → Teller D → Result D Stop → F → Teller D → Type 0) (takes : NoVisitor → List Choice → D → NoVisitor → Type 0) {A : Type 0} (b : Builder) (f : F) (v v' : NoVisitor) (r : Result A RunnerError)
    → b ≡ defaults → IfErr r (IsNoReportUnsaved called takes b f v v') → IfErr r (λ e. (w w' : NoVisitor) × GivesUp called takes defaults (λ text. text ≡ None) ⊥ f w w' e)
by_defaults {D} {F} called takes b f v v' r is reported =
    weaker r (IsNoReportUnsaved called takes defaults f v v') (λ e. (w w' : NoVisitor) × GivesUp called takes defaults (λ text. text ≡ None) ⊥ f w w' e) go
    (subst (λ (x : Builder). IfErr r (IsNoReportUnsaved called takes x f v v')) is reported)
  where
    go : (e : RunnerError) → IsNoReportUnsaved called takes defaults f v v' e → (w w' : NoVisitor) × GivesUp called takes defaults (λ text. text ≡ None) ⊥ f w w' e
    go e (inl out) = let h : ◌≡◌ {A = Result ⊤ CheckError} (Ok tt) (Err out.0) = out.2 in absurd (cc h)
    go e (inr up) = (v, v', up.1)
