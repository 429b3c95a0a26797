-- One event more of a run, and of its story.
use Rattle.std.proofs.Common.{◌≡◌, ◌≤◌, ◌+◌, ℕ, suc, List, [], ◌∷◌, ◌++◌, length, sym, subst, ◌∙◌, ap, arith, append_assoc, append-nil, refl}
use Rattle.std.specs.Prelude.{IfOk, OnOk, Result, Ok, Err, Some, slice_get, slice_set, ⊤, Bool}
use Rattle.std.proofs.lemmas.Option.{slice_get_past}
use Rattle.loom_views.specs.declared.rt.failure.FailureKind.{FailureKind}
use Rattle.loom_views.specs.declared.rt.failure.FailureKind.TheVariants.{Misuse}
use Rattle.loom_objects.specs.declared.failure.Stop.{Stop}
use Rattle.loom_objects.specs.declared.failure.Stop.TheVariants.{Failure as Because, Memory}
use Rattle.loom_objects.specs.Operation.Labelled.{Op}
use Rattle.loom_objects.specs.declared.operation.Reply.{Reply}
use Rattle.loom_objects.specs.declared.operation.Reply.TheVariants as reply
use Rattle.loom_objects.specs.declared.operation.Turn.{Turn}
use Rattle.loom_objects.specs.declared.operation.Turn.TheVariants as turn
use Rattle.loom_objects.specs.Operation.Plain.{plain, started}
use Rattle.loom_objects.specs.World.{World}
use Rattle.loom_engine.specs.declared.rt.execution.Progress.{Progress}
use Rattle.loom_engine.specs.Execution.{Along, Comes, ShowsCourse}
use Rattle.loom_engine.specs.Path.Route.{Route, drives, trail}
use Rattle.loom_engine.specs.Runs.Course.{Course}
use Rattle.loom_engine.specs.Runs.Machine.{submit}
use Rattle.loom_engine.specs.Runs.Body.{Meaning, at_turn, runs, with_child}
use Rattle.loom_engine.specs.Trees.Drive.{Trail, drive}
use Rattle.loom_engine.specs.Trees.Marks.{marking}
use Rattle.loom_engine.specs.Trees.Meeting.{Settings}
use Rattle.loom.proofs.ModelLemmas.Handing.{IsHanded, slice_get_is}
use Rattle.loom.specs.Model.Run.{IsEndBy, IsEndOf, Outcome, RunsAlong}
use Rattle.loom_explain.specs.declared.event.Event.{Event}
use Rattle.loom.specs.Explain.Story.{Story, begins_with, by_body, event_of, goes_on, hands_over, nothing_more, story, story_of}
use Rattle.loom.specs.Model.Listening.{HasHeard, HasHeardOne}
use Rattle.loom.specs.Model.Turns.{EndsWith, IsHeardAs, IsUnderWay, behind}
use Rattle.loom.specs.declared.model.run.Ending.{Ending}
use Rattle.loom.specs.declared.model.run.Ending.TheVariants.{Ended, Failed}
use Rattle.loom.proofs.ExplainLemmas.Story.{story_law}

module _ {D S : Type 0} (next : Meaning D S) (whole : Story D) where
  -- the next turn of a run under way, when these events were heard
  abbrev pub ComesToTurn : Result (Turn D) Stop → List Event → List S → Progress D → Route → Type 0
  ComesToTurn (Ok (turn.Reply thread answer)) events bodies run path = IsUnderWay next whole events bodies run path thread answer
  ComesToTurn (Ok (turn.Start thread)) events bodies run path = IsUnderWay next whole events bodies run path thread reply.Start
  ComesToTurn (Ok (turn.Ended value)) events bodies run path = whole ≡ record { events = events; comes = (Ok value, trail path) }
  ComesToTurn (Err (Because failure)) events bodies run path = whole ≡ record { events = events; comes = (Err failure.kind, trail path) }
  ComesToTurn (Err Memory) events bodies run path = Unit {0}

-- an event goes from the rest of a story to what was told
told_one_more : {D : Type 0} (events : List Event) (event : Event) (rest : Story D) → behind (events ++ event ∷ []) rest ≡ behind events (begins_with event rest)
told_one_more {D} events event rest = ap (λ (l : List Event). let z : Story D = record { events = l; comes = rest.comes } in z) (append_assoc events (event ∷ []) rest.events)

-- where nothing more happens all was told
told_all : {D : Type 0} (events : List Event) (comes : Outcome D) → behind events (nothing_more comes) ≡ record { events = events; comes = comes }
told_all {D} events comes = ap (λ (l : List Event). let z : Story D = record { events = l; comes = comes } in z) (append-nil events)

module _ {D S : Type 0} (next : Meaning D S) where
  opened : (s : Settings) (left : ℕ) (bodies : List S) (c : Course D) (path : Trail) (thread : ℕ) (answer : Reply D) (body : S) (stepped : S × Op D S)
      → slice_get bodies thread ≡ Some body → stepped ≡ next body answer
      → story s next (suc left) bodies c path thread answer ≡ hands_over s (story s next left) bodies c path thread answer stepped
  unfolding story
  opened s left bodies c path thread answer body stepped at step =
      ap (by_body (λ b. hands_over s (story s next left) bodies c path thread answer (next b answer)) path) at
      ∙ ap (hands_over s (story s next left) bodies c path thread answer) (sym step)

  nobody : (s : Settings) (left : ℕ) (bodies : List S) (c : Course D) (path : Trail) (thread : ℕ) (answer : Reply D) → length bodies ≤ thread
      → story s next (suc left) bodies c path thread answer ≡ nothing_more (Err Misuse, path)
  unfolding story
  nobody s left bodies c path thread answer past =
      ap (by_body (λ b. hands_over s (story s next left) bodies c path thread answer (next b answer)) path) (slice_get_past bodies thread past)

  -- a copy of the body alone
  pub alone : (old new : List S) (copy body : S) → new ≡ old ++ copy ∷ [] → old ≡ [] → copy ≡ body → new ≡ body ∷ []
  alone old new copy body more none same = more ∙ ap (λ (l : List S). l ++ copy ∷ []) none ∙ ap (λ (b : S). b ∷ []) same

  -- before any event a run is under way to its own story
  pub begins : (events : List Event) (bodies : List S) (run : Progress D) (path : Route) (body : S) (c : Course D) → events ≡ [] → bodies ≡ body ∷ [] → ShowsCourse c run path
      → IsUnderWay next (story path.search next (suc c.world.steps_left) (body ∷ []) c (trail path) 0 reply.Start) events bodies run path 0 reply.Start
  begins events bodies run path body c none one shown = record {
    course = c;
    shown = shown;
    rest =
        ap (λ (l : List Event). behind l (story path.search next (suc c.world.steps_left) bodies c (trail path) 0 reply.Start)) none
        ∙ ap (λ (b : List S). story path.search next (suc c.world.steps_left) b c (trail path) 0 reply.Start) one;
  }

  module _ (whole : Story D) where
    -- a thread that has no body
    pub no_body : (events : List Event) (bodies : List S) (run : Progress D) (path : Route) (thread : ℕ) (answer : Reply D) → length bodies ≤ thread
        → IsUnderWay next whole events bodies run path thread answer → whole ≡ record { events = events; comes = (Err Misuse, trail path) }
    no_body events bodies run path thread answer past z =
        sym z.rest ∙ ap (behind events) (nobody path.search z.course.world.steps_left bodies z.course (trail path) thread answer past) ∙ told_all events (Err Misuse, trail path)

    -- what is left when the operation was heard
    rest_is : (events : List Event) (bodies : List S) (run : Progress D) (path : Route) (thread : ℕ) (answer : Reply D) (body after : S) (op : Op D S)
        → IsHanded next bodies thread answer body after op → (z : IsUnderWay next whole events bodies run path thread answer)
        → behind (events ++ event_of thread answer op path.position ∷ [])
        (goes_on (story path.search next z.course.world.steps_left (with_child (slice_set bodies thread after) (started op))) (drives (submit (plain op) z.course) path)) ≡ whole
    rest_is events bodies run path thread answer body after op h z =
        let rest : Story D = goes_on (story path.search next z.course.world.steps_left (with_child (slice_set bodies thread after) (started op))) (drives (submit (plain op) z.course) path) in
        told_one_more events (event_of thread answer op path.position) rest
        ∙ ap (behind events) (sym (opened path.search z.course.world.steps_left bodies z.course (trail path) thread answer body (after, op) (slice_get_is bodies thread body h.within h.at) h.step))
        ∙ z.rest

    -- the operation stops the run
    stops : (events : List Event) (bodies : List S) (run run' : Progress D) (path path' : Route) (thread : ℕ) (answer : Reply D) (body after : S) (op : Op D S) (stop : Stop)
        → IsHanded next bodies thread answer body after op
        → ((c : Course D) → ShowsCourse c run path → Comes (submit (plain op) c) path (Err stop) run' path')
        → IsUnderWay next whole events bodies run path thread answer
        → (bodies' : List S) → ComesToTurn next whole (Err stop) (events ++ event_of thread answer op path.position ∷ []) bodies' run' path'
    stops events bodies run run' path path' thread answer body after op Memory h came z bodies' = tt
    stops events bodies run run' path path' thread answer body after op (Because failure) h came z bodies' =
        let heard = events ++ event_of thread answer op path.position ∷ [] in
        sym (rest_is events bodies run path thread answer body after op h z)
        ∙ ap (λ (d : Outcome (Turn D × Course D)). behind heard
        (goes_on (story path.search next z.course.world.steps_left (with_child (slice_set bodies thread after) (started op))) d))
        (came z.course z.shown)
        ∙ told_all heard (Err failure.kind, trail path')

    -- what is left after the turn
    after_turn : (turned : Turn D) (events : List Event) (bodies : List S) (run : Progress D) (path : Route) (c : Course D) (left : ℕ) → ShowsCourse c run path → left ≡ suc c.world.steps_left
        → behind events (at_turn (story path.search next left bodies c (trail path)) (λ value. nothing_more (Ok value, trail path)) turned) ≡ whole
        → ComesToTurn next whole (Ok turned) events bodies run path
    after_turn (turn.Reply thread answer) events bodies run path c left shown size e = record {
      course = c;
      shown = shown;
      rest = ap (λ n. behind events (story path.search next n bodies c (trail path) thread answer)) (sym size) ∙ e;
    }
    after_turn (turn.Start thread) events bodies run path c left shown size e = record {
      course = c;
      shown = shown;
      rest = ap (λ n. behind events (story path.search next n bodies c (trail path) thread reply.Start)) (sym size) ∙ e;
    }
    after_turn (turn.Ended value) events bodies run path c left shown size e = sym e ∙ told_all events (Ok value, trail path)

    -- the operation leads to a turn
    turns : (events : List Event) (bodies : List S) (run run' : Progress D) (path path' : Route) (thread : ℕ) (answer : Reply D) (body after : S) (op : Op D S) (turned : Turn D)
        → IsHanded next bodies thread answer body after op
        → ((c : Course D) → ShowsCourse c run path → Comes (submit (plain op) c) path (Ok turned) run' path')
        → run.state.steps_left ≡ run'.state.steps_left + 1 → path'.search ≡ path.search
        → IsUnderWay next whole events bodies run path thread answer
        → (bodies' : List S) → bodies' ≡ with_child (slice_set bodies thread after) (started op)
        → ComesToTurn next whole (Ok turned) (events ++ event_of thread answer op path.position ∷ []) bodies' run' path'
    turns events bodies run run' path path' thread answer body after op turned h came steps same z bodies' more =
        let come = came z.course z.shown in
        let left = z.course.world.steps_left in
        let heard = events ++ event_of thread answer op path.position ∷ [] in
        let counted : z.course.world.steps_left ≡ run.state.steps_left = ap (λ (w : World D). w.steps_left) z.shown.world.rest in
        let counts : come.0.world.steps_left ≡ run'.state.steps_left = ap (λ (w : World D). w.steps_left) come.1.world.rest in
        after_turn turned heard bodies' run' path' come.0 left come.1 (omega arith)
        (ap (λ (s : Settings). behind heard (at_turn (story s next left bodies' come.0 (trail path')) (λ value. nothing_more (Ok value, trail path')) turned)) same
        ∙ ap (λ (b : List S). behind heard (at_turn (story path.search next left b come.0 (trail path')) (λ value. nothing_more (Ok value, trail path')) turned)) more
        ∙ ap (λ (d : Outcome (Turn D × Course D)). behind heard (goes_on (story path.search next left (with_child (slice_set bodies thread after) (started op))) d)) (sym come.2)
        ∙ rest_is events bodies run path thread answer body after op h z)

    -- the operation leads to a turn or stops the run
    pub comes : (events : List Event) (bodies : List S) (run run' : Progress D) (path path' : Route) (thread : ℕ) (answer : Reply D) (body after : S) (op : Op D S) (result : Result (Turn D) Stop)
        → IsHanded next bodies thread answer body after op → Along (submit (plain op)) run path result run' path'
        → OnOk result (run.state.steps_left ≡ run'.state.steps_left + 1) → path'.search ≡ path.search
        → IsUnderWay next whole events bodies run path thread answer
        → (bodies' : List S) → OnOk result (bodies' ≡ with_child (slice_set bodies thread after) (started op))
        → ComesToTurn next whole result (events ++ event_of thread answer op path.position ∷ []) bodies' run' path'
    comes events bodies run run' path path' thread answer body after op (Ok turned) h came steps same z bodies' more =
        turns events bodies run run' path path' thread answer body after op turned h came steps same z bodies' more
    comes events bodies run run' path path' thread answer body after op (Err stop) h came steps same z bodies' more =
        stops events bodies run run' path path' thread answer body after op stop h came z bodies'

-- ---- what the listener hears

-- the story of a run has the outcome that the tree of runs has along the path
pub driven : {D S : Type 0} (s : Settings) (next : Meaning D S) (explores : Bool) (max_threads max_steps : ℕ) (body : S) (path : Route) → s ≡ path.search → (comes : Outcome D) (events : List Event)
    → story_of s next explores max_threads max_steps body (trail path) ≡ record { events = events; comes = comes } → drives (runs next explores max_threads max_steps body) path ≡ comes
driven {D} s next explores max_threads max_steps body path same comes events e =
    ap (λ (s : Settings). drive s (marking s.bound) (runs next explores max_threads max_steps body) (trail path)) (sym same)
    ∙ sym (story_law s next explores max_threads max_steps body (trail path))
    ∙ ap (λ (story : Story D). story.comes) e

module _ {L : Type 0} (takes_reply : L → Reply ⊤ → L → Type 0) (takes_op : L → ℕ → Op ⊤ ⊤ → ℕ → L → Type 0) where
  -- some events, and then others
  pub heard_more : (old mid new : L) (events more : List Event) → HasHeard takes_reply takes_op old events mid → HasHeard takes_reply takes_op mid more new
      → HasHeard takes_reply takes_op old (events ++ more) new
  heard_more old mid new [] more one other = subst (λ (l : L). HasHeard takes_reply takes_op l more new) one other
  heard_more old mid new (event ∷ events) more one other = (one.0, one.1, heard_more one.0 mid new events more one.2 other)

  module _ {D S : Type 0} (next : Meaning D S) (whole : Story D) (old new : L) where
    -- the next turn of a run of which the listener has heard each event
    abbrev pub HearsTurn : Result (Turn D) Stop → List S → Progress D → Route → Type 0
    HearsTurn answer bodies run path = (events : List Event) × HasHeard takes_reply takes_op old events new × ComesToTurn next whole answer events bodies run path

    -- an event more was heard, and led to a turn or stopped the run
    pub hears_one : (mid : L) (events : List Event) (bodies : List S) (run run' : Progress D) (path path' : Route) (thread : ℕ) (answer : Reply D) (body after : S) (op : Op D S) (result : Result (Turn D) Stop)
        → IsHanded next bodies thread answer body after op → HasHeardOne takes_reply takes_op mid (event_of thread answer op path.position) new
        → Along (submit (plain op)) run path result run' path'
        → OnOk result (run.state.steps_left ≡ run'.state.steps_left + 1) → path'.search ≡ path.search
        → HasHeard takes_reply takes_op old events mid → IsUnderWay next whole events bodies run path thread answer
        → (bodies' : List S) → OnOk result (bodies' ≡ with_child (slice_set bodies thread after) (started op))
        → HearsTurn result bodies' run' path'
    hears_one mid events bodies run run' path path' thread answer body after op result h heard came steps same so_far z bodies' more =
        let event = event_of thread answer op path.position in (
          events ++ event ∷ [],
          heard_more old mid new events (event ∷ []) so_far (new, heard, refl),
          comes next whole events bodies run run' path path' thread answer body after op result h came steps same z bodies' more,
        )

    -- a run that was stopped ends so
    ends_stopped : (events : List Event) (bodies : List S) (run : Progress D) (path : Route) (stop : Stop) (ending : Ending D) → IsEndOf stop ending
        → ComesToTurn next whole (Err stop) events bodies run path → EndsWith whole events ending path
    ends_stopped events bodies run path (Because failure) (Failed placed) is e =
        e ∙ ap (λ (kind : FailureKind). let z : Story D = record { events = events; comes = (Err kind, trail path) } in z) (sym is)
    ends_stopped events bodies run path (Because failure) (Ended value) is e = absurd is
    ends_stopped events bodies run path Memory ending is e = absurd is

    -- and so does one that may miss memory
    pub stopped_so : {E : Type 0} (events : List Event) (bodies : List S) (run : Progress D) (path : Route) (stop : Stop) (ending : Result (Ending D) E) → IfOk ending (IsEndOf stop)
        → HasHeard takes_reply takes_op old events new
        → ComesToTurn next whole (Err stop) events bodies run path → IfOk ending (λ ending. IsHeardAs takes_reply takes_op whole old new ending path)
    stopped_so events bodies run path stop (Ok ending) is heard e = (events, heard, ends_stopped events bodies run path stop ending is e)
    stopped_so events bodies run path stop (Err none) is heard e = tt

    -- a run whose last operation was answered so ends by that
    ends_by : (events : List Event) (bodies : List S) (run : Progress D) (path : Route) (answer : Result (Turn D) Stop) (ending : Ending D) → IsEndBy answer ending
        → ComesToTurn next whole answer events bodies run path → EndsWith whole events ending path
    ends_by events bodies run path (Err stop) ending is e = ends_stopped events bodies run path stop ending is e
    ends_by events bodies run path (Ok (turn.Ended value)) ending is e = subst (λ (z : Ending D). EndsWith whole events z path) (sym is) e
    ends_by events bodies run path (Ok (turn.Reply thread answer)) ending is e = absurd is
    ends_by events bodies run path (Ok (turn.Start thread)) ending is e = absurd is

    -- and so does one that may miss memory
    pub ended_so : {E : Type 0} (bodies : List S) (run : Progress D) (path : Route) (answer : Result (Turn D) Stop) (ending : Result (Ending D) E) → IfOk ending (IsEndBy answer)
        → HearsTurn answer bodies run path → IfOk ending (λ ending. IsHeardAs takes_reply takes_op whole old new ending path)
    ended_so bodies run path answer (Ok ending) is z = (z.0, z.1, ends_by z.0 bodies run path answer ending is z.2)
    ended_so bodies run path answer (Err none) is z = tt

  -- the story of a body's run has the outcome of its tree of runs
  pub heard_along : {D S E : Type 0} (s : Settings) (next : Meaning D S) (explores : Bool) (max_threads max_steps : ℕ) (body : S) (path : Route) (old new : L) (ending : Result (Ending D) E) (after : Route)
      → s ≡ path.search
      → IfOk ending (λ ending. IsHeardAs takes_reply takes_op (story_of s next explores max_threads max_steps body (trail path)) old new ending after)
      → IfOk ending (λ ending. RunsAlong (runs next explores max_threads max_steps body) path ending after)
  heard_along s next explores max_threads max_steps body path old new (Ok (Ended value)) after same z = driven s next explores max_threads max_steps body path same (Ok value, trail after) z.0 z.2
  heard_along s next explores max_threads max_steps body path old new (Ok (Failed failure)) after same z = driven s next explores max_threads max_steps body path same (Err failure.kind, trail after) z.0 z.2
  heard_along s next explores max_threads max_steps body path old new (Err none) after same z = tt
