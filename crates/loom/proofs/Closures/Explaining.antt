-- The explanation of a run of closures, and why there is none.
use Rattle.std.proofs.Common.{◌≡◌, ◌∙◌, ◌∷◌, ◌++◌, ap, ap₂, append-nil, append_assoc, length, refl, subst, sym, inl, inr, List, [], Some, Result, Ok, Err, IfOk}
use Rattle.std.specs.Prelude.{⊤}
use Rattle.loom_engine.specs.declared.rt.execution.Limits.{Limits}
use Rattle.loom_engine.specs.Path.Route.{Route}
use Rattle.loom_explain.specs.declared.event.End.{End}
use Rattle.loom_explain.specs.declared.event.Event.{Event as ToldEvent}
use Rattle.loom_explain.specs.declared.explanation.Explanation.{Explanation}
use Rattle.loom_objects.specs.declared.choice.Choice.{Choice}
use Rattle.loom_objects.specs.declared.operation.Reply.{Reply}
use Rattle.loom.specs.Explain.Explains.{HasLimits, IsChosenOn}
use Rattle.loom.specs.Explain.Places.{placed}
use Rattle.loom.specs.declared.model.builder.Builder.{Builder}
use Rattle.loom.specs.declared.runner.error.RunnerError.{RunnerError}
use Rattle.loom.specs.declared.runner.history.event.Event.{Event}
use Rattle.loom.specs.declared.runner.stop.Stop.{Stop}
use Rattle.loom.specs.declared.runner.stop.Stop.TheVariants as stop
use Rattle.loom.specs.Runner.Check.{limits_of}
use Rattle.loom.specs.Runner.Errors.{error_by}
use Rattle.loom.specs.Runner.Explained.{Explains, ExplainsAlong, IsEndOf, IsSettledAndTold, IsToldOf, told_by, told_event, told_events, told_from}
use Rattle.loom.specs.Runner.Handle.{Teller}
use Rattle.loom.specs.Runner.Histories.{Log, Share}
use Rattle.loom.specs.Runner.Refusals.{IsNoReplayAlong, IsNotTold, IsOpenOrRefused}
use Rattle.loom.specs.Runner.Replay.{following}
use Rattle.loom.specs.Runner.Run.{WasCalled}

-- a run that was spoiled
pub spoiled_untold : {D : Type 0} (limits : Limits) (began : Route) (log : Log D) (told : List (Share D)) (s : Stop) (e : RunnerError) → e ≡ error_by s → log.spoiled ≡ Some s → IsNotTold limits began log told e
spoiled_untold limits began log told (stop.Failure failure) e is spoiled = inr (is, inl (failure, spoiled))
spoiled_untold limits began log told stop.Memory e is spoiled = inl (inl is)
spoiled_untold limits began log told stop.Refused e is spoiled = inl (inr is)

-- a history without an end isn't settled
pub open_untold : {D : Type 0} (limits : Limits) (began : Route) (log : Log D) (told : List (Share D)) (e : RunnerError) → IsOpenOrRefused log e → IsNotTold limits began log told e
open_untold limits began log told e (inl host) = inl host
open_untold limits began log told e (inr (is, none)) = inr (is, inr (inr none))

-- one event more is told
pub told_on : {D : Type 0} (all front front' : List ToldEvent) (told next : Reply ⊤) (e : Event D) (rest tail : List (Event D)) (x : ToldEvent) → front' ≡ front ++ x ∷ [] → x ≡ told_event told e → next ≡ told_by e.outcome
    → rest ≡ e ∷ tail → front ++ told_from told rest ≡ all → front' ++ told_from next tail ≡ all
told_on all front front' told next e rest tail x pushed is by split h =
    ap (λ l. l ++ told_from next tail) pushed
    ∙ (append_assoc front (x ∷ []) (told_from next tail)
    ∙ (ap₂ (λ (y : ToldEvent) (n : Reply ⊤). front ++ y ∷ told_from n tail) is by
    ∙ (ap (λ r. front ++ told_from told r) (sym split) ∙ h)))

-- none is left
pub told_all : {D : Type 0} (all front : List ToldEvent) (told : Reply ⊤) (rest : List (Event D)) → length rest ≡ 0 → front ++ told_from told rest ≡ all → front ≡ all
told_all all front told [] none h = sym (append-nil front) ∙ h
told_all all front told (e ∷ es) none h = absurd (cc none)

-- what is made of the events, the end and the path of a state at a run's end
pub told_of : {D E : Type 0} (b : Builder) (log : Log D) (events : List ToldEvent) (end : End) (path : Route) → events ≡ told_events log.history → path ≡ log.now.route → IsEndOf log.history end → (r : Result Explanation E)
    → IfOk r (λ e. (e.events.items ≡ events) × (e.end ≡ placed events e.choices.items end)) → IfOk r (IsChosenOn path) → IfOk r (HasLimits b) → IfOk r (IsToldOf b log)
told_of b log events end path same is ends (Err e) t p l = tt
told_of b log events end path same is ends (Ok e) t p l = record {
  events = t.0 ∙ same;
  chosen = subst (λ (r : Route). IsChosenOn r e) is p;
  end = end;
  ends = ends;
  placed = t.1 ∙ ap (λ (es : List ToldEvent). placed es e.choices.items end) (sym t.0);
  limits = l;
}

module _ {D F : Type 0} (called : F → Teller D → Result D Stop → F → Teller D → Type 0) (limits : Limits) where
  -- the explanation of the state at the end of a run that was made
  pub told_along : (b : Builder) (f f' : F) (began : Route) (log : Log D) (told : List (Share D)) → WasCalled called f f' told → (r : Result Explanation RunnerError)
      → IfOk r (IsSettledAndTold limits b began told log) → IfOk r (ExplainsAlong called limits b began f)
  told_along b f f' began log told was (Err e) h = tt
  told_along b f f' began log told was (Ok e) h = (
    record { began = began; log = log; told = told; handle = was.handle; answer = was.answer },
    record { began = refl; after = f'; call = was.call; settled = record { settles = h.0.settles; history = h.0.history; main = was.main } },
    h.1,
  )

  -- why there is none
  pub untold_along : (f f' : F) (began : Route) (log : Log D) (told : List (Share D)) → WasCalled called f f' told → (e : RunnerError) → IsNotTold limits began log told e
      → IsNoReplayAlong called limits began f e
  untold_along f f' began log told was e (inl host) = inl host
  untold_along f f' began log told was e (inr (is, without)) = inr (is, record { after = f'; log = log; told = told; call = was; unsettled = without })

-- by settings in range
pub explained_by : {D F : Type 0} (called : F → Teller D → Result D Stop → F → Teller D → Type 0) (b : Builder) (given : List Choice) (f : F) (limits : Limits) (start : Route) (r : Result Explanation RunnerError)
    → limits ≡ limits_of b → start ≡ following b given → IfOk r (ExplainsAlong called limits b start f) → IfOk r (Explains called b given f)
explained_by called b given f limits start (Err e) is along h = tt
explained_by called b given f limits start (Ok e) is along h =
    subst (λ (l : Limits). ExplainsAlong called l b (following b given) f e) is (subst (λ (s : Route). ExplainsAlong called limits b s f e) along h)
