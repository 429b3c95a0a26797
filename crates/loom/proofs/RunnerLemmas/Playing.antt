-- A run that is made of what is recorded: one event more, and its end.
use Rattle.std.proofs.Common.{◌≡◌, ◌+◌, ℕ, List, [], ◌∷◌, ◌++◌, refl, sym, ap, ◌∙◌, subst}
use Rattle.std.specs.Prelude.{⊤, IfOk, IfSome, OnOk, Option, Some, None, Result, Ok, Err, slice_set}
use Rattle.std.proofs.lemmas.Option.{get_or_from_slice_get, slice_get_within}
use Rattle.loom_views.specs.declared.rt.failure.FailureKind.{FailureKind}
use Rattle.loom_objects.specs.Operation.Labelled.{Op}
use Rattle.loom_objects.specs.Operation.Plain.{plain, started}
use Rattle.loom_objects.specs.declared.failure.Stop.{Stop}
use Rattle.loom_objects.specs.declared.failure.Stop.TheVariants as stop
use Rattle.loom_objects.specs.declared.operation.Request.{Request}
use Rattle.loom_objects.specs.declared.operation.Reply.{Reply}
use Rattle.loom_objects.specs.declared.operation.Turn.{Turn}
use Rattle.loom_objects.specs.declared.operation.Turn.TheVariants as turn
use Rattle.loom_engine.specs.declared.rt.execution.Limits.{Limits}
use Rattle.loom_engine.specs.declared.rt.execution.Progress.{Progress}
use Rattle.loom_engine.specs.Execution.{Along, ExecutionState, ShowsCourse, Submits}
use Rattle.loom_engine.specs.Path.Route.{IsSameSearch, Route, trail}
use Rattle.loom_engine.specs.Runs.Body.{with_child}
use Rattle.loom_engine.specs.Runs.Course.{opening}
use Rattle.loom_engine.specs.Runs.Machine.{submit}
use Rattle.loom_explain.specs.declared.event.Event.{Event}
use Rattle.loom.specs.Explain.Story.{Story, event_of, story_of}
use Rattle.loom.specs.Model.Run.{IsEndBy, RunsAlong}
use Rattle.loom.specs.Model.Turns.{IsUnderWay}
use Rattle.loom.specs.declared.model.run.Ending.{Ending}
use Rattle.loom.specs.declared.model.run.Ending.TheVariants.{Ended, Failed}
use Rattle.loom.specs.declared.runner.history.event.Event.{Event as RunEvent}
use Rattle.loom.specs.Runner.Histories.{Leads, Moment, active_at, ended_by, first, moment, passed_at}
use Rattle.loom.specs.Runner.Recorded.{Function, Word, begun_by, by_function, runs_by, spawned, tells}
use Rattle.loom.specs.Runner.Recording.{EndsThere, HandsOver, HasRun, LeadsTo}
use Rattle.loom.proofs.ExplainLemmas.Turning.{ComesToTurn, comes, driven}
use Rattle.loom.proofs.ModelLemmas.Handing.{IsHanded, before_the_end}
use Rattle.loom.proofs.RunnerLemmas.Leading.{last_snoc, leads_snoc}
use Rattle.loom.proofs.RunnerLemmas.Recorded.{plain_starting, started_starting}

-- ---- one event more

module _ {D : Type 0} (does : Function D) where
  -- the thread's body hands over what the function says
  handed : (words told : List (Word D)) (thread : ℕ) (answer : Reply D) (asked : Request D ⊤) (places : List ℕ) (h : HandsOver does words told thread answer asked places)
      → IsHanded (by_function does) told thread answer h.word (by_function does h.word answer).0 (by_function does h.word answer).1
  handed words told thread answer asked places h = record {
    within = slice_get_within told thread h.word h.at;
    at = sym (get_or_from_slice_get told thread h.word h.word h.at);
    step = refl;
  }

  module _ (whole : Story D) where
    -- the operation is submitted, and leads to a turn or stops the run
    pub played_on : (words told : List (Word D)) (thread : ℕ) (answer : Reply D) (asked : Request D ⊤) (places : List ℕ) (h : HandsOver does words told thread answer asked places) (events : List Event)
        (run run' : Progress D) (path path' : Route) (result : Result (Turn D) Stop) → Along (submit asked) run path result run' path'
        → OnOk result (run.state.steps_left ≡ run'.state.steps_left + 1) → path'.search ≡ path.search → IsUnderWay (by_function does) whole events told run path thread answer
        → ComesToTurn (by_function does) whole result (events ++ event_of thread answer (by_function does h.word answer).1 path.position ∷ [])
        (with_child (slice_set told thread (tells answer ∷ h.word)) (begun_by asked (tells answer ∷ h.word))) run' path'
    played_on words told thread answer asked places h events run run' path path' result along steps same z =
        let next : Word D = tells answer ∷ h.word in
        let op : Op D (Word D) = (by_function does h.word answer).1 in
        let is_plain : plain op ≡ asked = plain_starting (spawned ∷ next) (does next) ∙ h.asks in
        let starts : started op ≡ begun_by asked next = started_starting (spawned ∷ next) (does next) ∙ ap (λ (o : Request D ⊤). begun_by o next) h.asks in
        comes (by_function does) whole events told run run' path path' thread answer h.word next op result (handed words told thread answer asked places h)
        (subst (λ (o : Request D ⊤). Along (submit o) run path result run' path') (sym is_plain) along) steps same z
        (with_child (slice_set told thread next) (begun_by asked next)) (all_more result (ap (with_child (slice_set told thread next)) (sym starts)))
      where
        all_more : {P : Type 0} (r : Result (Turn D) Stop) → P → OnOk r P
        all_more (Ok turned) p = p
        all_more (Err stopped) p = tt

    -- a run whose last operation was answered so ends by that
    ends_there : (events : List Event) (told : List (Word D)) (run : Progress D) (path : Route) (answer : Result (Turn D) Stop) (ending : Ending D) → IsEndBy answer ending
        → ComesToTurn (by_function does) whole answer events told run path → EndsThere whole ending path
    ends_there events told run path (Err (stop.Failure failure)) (Failed placed) is e =
        (events, e ∙ ap (λ (kind : FailureKind). let z : Story D = record { events = events; comes = (Err kind, trail path) } in z) (sym is))
    ends_there events told run path (Err (stop.Failure failure)) (Ended value) is e = absurd is
    ends_there events told run path (Err stop.Memory) ending is e = absurd is
    ends_there events told run path (Ok (turn.Ended value)) ending is e = subst (λ (z : Ending D). EndsThere whole z path) (sym is) (events, e)
    ends_there events told run path (Ok (turn.Reply thread answer)) ending is e = absurd is
    ends_there events told run path (Ok (turn.Start thread)) ending is e = absurd is

    pub known_ends : {E : Type 0} (events : List Event) (told : List (Word D)) (run : Progress D) (path : Route) (answer : Result (Turn D) Stop) (known : Result (Option (Ending D)) E)
        → IfOk known (λ k. IfSome k (IsEndBy answer)) → ComesToTurn (by_function does) whole answer events told run path → IfOk known (λ k. IfSome k (λ ending. EndsThere whole ending path))
    known_ends events told run path answer (Ok (Some ending)) is e = ends_there events told run path answer ending is e
    known_ends events told run path answer (Ok None) is e = tt
    known_ends events told run path answer (Err none) is e = tt

-- ---- its history

module _ {D : Type 0} where
  -- the event of an operation that was submitted, by the thread whose turn it was
  abbrev pub event_there : Moment D → Request D ⊤ → Turn D → RunEvent D
  event_there m op turned = record { by = active_at m; op = op; label = None; choices_before = passed_at m; outcome = Ok turned }

  pub led_on : (start : Moment D) (events : List (RunEvent D)) (old new : ExecutionState D) (op : Request D ⊤) (path path' : Route) (turned : Turn D) → Leads start events (moment old path) → old.over ≡ None
      → Submits old op path (Ok turned) new path' → IsSameSearch path path'
      → Leads start (events ++ event_there (moment old path) op turned ∷ []) (moment new path')
  led_on start events old new op path path' turned leads live submits same =
      let event = before_the_end old new op path path' (Ok turned) live submits in
      leads_snoc start (moment old path) (moment new path') events (event_there (moment old path) op turned) leads (refl, refl)
      (record { live = live; along = event.0; over = event.1; search = same })

  -- the run has ended so
  led_there : (start : Moment D) (events : List (RunEvent D)) (old new : ExecutionState D) (op : Request D ⊤) (path path' : Route) (answer : Result (Turn D) Stop) (ending : Ending D) → Leads start events (moment old path)
      → old.over ≡ None → Submits old op path answer new path' → IsSameSearch path path' → IsEndBy answer ending → LeadsTo start ending path'
  led_there start events old new op path path' (Err (stop.Failure failure)) (Failed placed) leads live submits same is = tt
  led_there start events old new op path path' (Err (stop.Failure failure)) (Ended value) leads live submits same is = absurd is
  led_there start events old new op path path' (Err stop.Memory) ending leads live submits same is = absurd is
  led_there start events old new op path path' (Ok (turn.Ended value)) ending leads live submits same is =
      subst (λ (z : Ending D). LeadsTo start z path') (sym is)
      (record {
        events = events ++ event_there (moment old path) op (turn.Ended value) ∷ [];
        now = moment new path';
        leads = led_on start events old new op path path' (turn.Ended value) leads live submits same;
        ended = ap ended_by (last_snoc events (event_there (moment old path) op (turn.Ended value)));
        route = refl;
      })
  led_there start events old new op path path' (Ok (turn.Reply thread answer)) ending leads live submits same is = absurd is
  led_there start events old new op path path' (Ok (turn.Start thread)) ending leads live submits same is = absurd is

  pub known_led : {E : Type 0} (start : Moment D) (events : List (RunEvent D)) (old new : ExecutionState D) (op : Request D ⊤) (path path' : Route) (answer : Result (Turn D) Stop) (known : Result (Option (Ending D)) E)
      → Leads start events (moment old path) → old.over ≡ None → Submits old op path answer new path' → IsSameSearch path path' → IfOk known (λ k. IfSome k (IsEndBy answer))
      → IfOk known (λ k. IfSome k (λ ending. LeadsTo start ending path'))
  known_led start events old new op path path' answer (Ok (Some ending)) leads live submits same is = led_there start events old new op path path' answer ending leads live submits same is
  known_led start events old new op path path' answer (Ok None) leads live submits same is = tt
  known_led start events old new op path path' answer (Err none) leads live submits same is = tt

  -- ---- from its start

  -- it ends as the function's runs do along the path
  runs_there : (does : Function D) (limits : Limits) (path path' : Route) (ending : Ending D) → EndsThere (story_of path.search (by_function does) path.explores limits.max_threads limits.max_steps [] (trail path)) ending path'
      → RunsAlong (runs_by does path.explores limits.max_threads limits.max_steps) path ending path'
  runs_there does limits path path' (Ended value) z = driven path.search (by_function does) path.explores limits.max_threads limits.max_steps [] path refl (Ok value, trail path') z.0 z.1
  runs_there does limits path path' (Failed failure) z = driven path.search (by_function does) path.explores limits.max_threads limits.max_steps [] path refl (Err failure.kind, trail path') z.0 z.1

  pub known_runs : {E : Type 0} (does : Function D) (limits : Limits) (path path' : Route) (known : Result (Option (Ending D)) E)
      → IfOk known (λ k. IfSome k (λ ending. EndsThere (story_of path.search (by_function does) path.explores limits.max_threads limits.max_steps [] (trail path)) ending path'))
      → IfOk known (λ k. IfSome k (λ ending. RunsAlong (runs_by does path.explores limits.max_threads limits.max_steps) path ending path'))
  known_runs does limits path path' (Ok (Some ending)) z = runs_there does limits path path' ending z
  known_runs does limits path path' (Ok None) z = tt
  known_runs does limits path path' (Err none) z = tt

  -- its history is one of the machine
  run_there : (limits : Limits) (old : ExecutionState D) (path path' : Route) (ending : Ending D) → old.over ≡ None
      → ShowsCourse (opening path.explores limits.max_threads limits.max_steps) old.run path → LeadsTo (moment old path) ending path' → HasRun limits path ending path'
  run_there limits old path path' (Failed failure) live shows led = tt
  run_there limits old path path' (Ended value) live shows led =
      let opened : moment old path ≡ first old.run path = ap (λ (o : Option Stop). moment (record { run = old.run; over = o }) path) live in (
        record { began = path; history = led.events; now = led.now },
        record {
          began = refl;
          ended = record {
            history = record { start = old.run; opens = shows; leads = subst (λ (m : Moment D). Leads m led.events led.now) opened led.leads };
            value = value;
            ended = led.ended;
          };
          route = led.route;
        },
      )

  pub known_run : {E : Type 0} (limits : Limits) (old : ExecutionState D) (path path' : Route) (known : Result (Option (Ending D)) E) → old.over ≡ None
      → ShowsCourse (opening path.explores limits.max_threads limits.max_steps) old.run path → IfOk known (λ k. IfSome k (λ ending. LeadsTo (moment old path) ending path'))
      → IfOk known (λ k. IfSome k (λ ending. HasRun limits path ending path'))
  known_run limits old path path' (Ok (Some ending)) live shows led = run_there limits old path path' ending live shows led
  known_run limits old path path' (Ok None) live shows led = tt
  known_run limits old path path' (Err none) live shows led = tt
