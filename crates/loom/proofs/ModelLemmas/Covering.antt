-- A run that notes states goes on by an event, or has left its path and what is noted as one with a table does.
use Rattle.std.proofs.Common.{◌≡◌, ◌≤◌, ◌+◌, ◌⊎◌, ℕ, suc, arith, Bool, true, false, ◌&&◌, List, [], ◌∷◌, length, Option, Some, None, Result, Ok, Err, refl, ap, ap₂, sym, ◌∙◌, subst, inl, inr, rules}
use Rattle.std.specs.Prelude.{IfOk, OnOk, nat_le, slice_get, slice_set, ⊤}
use Rattle.std.proofs.lemmas.Option.{slice_get_past}
use Rattle.loom_views.specs.declared.rt.failure.FailureKind.{FailureKind}
use Rattle.loom_views.specs.declared.rt.failure.FailureKind.TheVariants.{Misuse}
use Rattle.loom_views.specs.declared.rt.views.Views.{Views}
use Rattle.loom_views.specs.InOrder.{IsInOrder}
use Rattle.loom_views.proofs.Sight.InOrder.{in_order_itself}
use Rattle.loom_objects.specs.declared.choice.Choice.{Choice}
use Rattle.loom_objects.specs.declared.failure.Stop.{Stop}
use Rattle.loom_objects.specs.declared.failure.Stop.TheVariants.{Failure as Because, Memory}
use Rattle.loom_objects.specs.declared.operation.Reply.{Reply}
use Rattle.loom_objects.specs.declared.operation.Reply.TheVariants as reply
use Rattle.loom_objects.specs.declared.operation.Request.{Request}
use Rattle.loom_objects.specs.declared.operation.Turn.{Turn}
use Rattle.loom_objects.specs.declared.operation.Turn.TheVariants as turn
use Rattle.loom_objects.specs.declared.rt.exploring.Exploring.{Exploring}
use Rattle.loom_objects.specs.declared.rt.exploring.Exploring.TheVariants.{On, Off, Skipping}
use Rattle.loom_objects.specs.Exploring.{is_on}
use Rattle.loom_objects.specs.Operation.Labelled.{Op}
use Rattle.loom_objects.specs.Operation.Plain.{plain, started}
use Rattle.loom_objects.specs.Tree.Tree.{Tree}
use Rattle.loom_objects.specs.World.{World}
use Rattle.loom_engine.specs.declared.rt.execution.Begun.{Begun}
use Rattle.loom_engine.specs.declared.rt.execution.Begun.TheVariants as begun
use Rattle.loom_engine.specs.declared.rt.execution.Progress.{Progress}
use Rattle.loom_engine.specs.Begun.{Begins, BeginsAt, begins_at}
use Rattle.loom_engine.specs.Execution.{AllNeedMemory, Along, ExecutionState, HappensAt, Schedules, ShowsCourse, itself, over_after}
use Rattle.loom_engine.specs.Path.Route.{Route, chosen, drives, stored, trail}
use Rattle.loom_engine.specs.Runs.Body.{Meaning, runs, with_child}
use Rattle.loom_engine.specs.Runs.Course.{Course, opening}
use Rattle.loom_engine.specs.Runs.Machine.{further_branches, schedule}
use Rattle.loom_engine.specs.Trees.Drive.{Trail, at_start, drive, is_used_up}
use Rattle.loom_engine.specs.Covering.Cut.{cut}
use Rattle.loom_engine.specs.Trees.Marks.{marking}
use Rattle.loom_engine.specs.Trees.Meeting.{Settings, whole_search}
use Rattle.loom_engine.specs.Covering.Kept.{Noted, NotesAs, state_in}
use Rattle.loom_engine.specs.Covering.UnderWay as under
use Rattle.loom_engine.proofs.Covering.UnderWay as way
use Rattle.loom_engine.proofs.Covering.Way.{never}
use Rattle.loom.proofs.ModelLemmas.Handing.{IsHanded, slice_get_is}
use Rattle.loom.specs.Model.Cover.{AreNoted, ComesTo, EndsWith, IsAtBranch, IsEndBy, IsEndOf, IsHanding, IsTabled, IsUnderWay, Leaves, LooksUpRun, Meets, Noting, Passes, StaysOpen}
use Rattle.loom.specs.declared.model.cover.run.Ending.{Ending}
use Rattle.loom.specs.declared.model.cover.run.Found.TheVariants.{Known, New}
use Rattle.loom.specs.declared.model.cover.run.Halt.{Halt}
use Rattle.loom.specs.declared.model.cover.run.Halt.TheVariants as halt

-- where nothing is looked up
pub not_looked_up : {D S : Type 0} (run : Progress D) (bodies : List S) (path : Route) (old new : Noted D S) → new ≡ old → LooksUpRun run bodies path old New new
not_looked_up run bodies path old new same = record { views = run.state.scene.views; order = in_order_itself run.state.scene.views; looks = inr same }

module _ {D S : Type 0} (next : Meaning D S) (run : Noting D S) where
  -- the path's search is the whole one
  pub by_whole : {A : Type 0} (path : Route) (t : Tree A) (r : Result A FailureKind × Trail) → path.search ≡ whole_search run.room → drives t path ≡ r → drive (whole_search run.room) (marking None) t (trail path) ≡ r
  by_whole path t r whole e = subst (λ (s : Settings). drive s (marking s.bound) t (trail path) ≡ r) whole e

  -- the course has as many operations left as the run
  left_of : (c : Course D) (progress : Progress D) (path : Route) → ShowsCourse c progress path → c.world.steps_left ≡ progress.state.steps_left
  left_of c progress path shown = ap (λ (w : World D). w.steps_left) shown.world.rest

  -- a turn to which the run came
  at_turn : (turn : Turn D) (bodies : List S) (v : Course D) (progress : Progress D) (path : Route) (noted : Noted D S) → ShowsCourse v progress path → IsTabled next run noted path → path.search ≡ whole_search run.room
      → way.TurnIs run.room (marking None) next run.explores run.max_threads run.max_steps run.body run.path run.old (trail path) (suc v.world.steps_left) bodies v turn
      → ComesTo next run (Ok turn) bodies progress path noted
  at_turn (turn.Reply thread answer) bodies v progress path noted shown tables whole at = record { course = v; shown = shown; at = at; tables = tables; whole = whole }
  at_turn (turn.Start thread) bodies v progress path noted shown tables whole at = record { course = v; shown = shown; at = at; tables = tables; whole = whole }
  at_turn (turn.Ended value) bodies v progress path noted shown tables whole e =
      (tables, way.ended_along run.room (marking None) next run.explores run.max_threads run.max_steps run.body run.path run.old noted (trail path) value tables e)

  -- how the whole run ended, where it wasn't cut
  abbrev ends : Result (Option D) FailureKind × Trail → Type 0
  ends r = drive (whole_search run.room) (marking None) (cut never [] (runs next run.explores run.max_threads run.max_steps run.body)) (at_start run.path) ≡ r

  -- it failed
  failed : (kind : FailureKind) (path : Route) (noted : Noted D S) → ends (Err kind, trail path) → Leaves next run (Err kind) path noted
  failed kind path noted e = ([], way.failed_along run.room (marking None) next run.explores run.max_threads run.max_steps run.body run.path run.old [] (trail path) kind e)

  -- ---- an operation up to its branch point

  module _ (bodies : List S) (old : Progress D) (path : Route) (op : Op D S) (noted : Noted D S) (h : IsHanding next run bodies old path op noted) where
    module _ (new : Progress D) (after : Route) (same : after.search ≡ path.search) where
      abbrev all : List S
      all = with_child bodies (started op)

      abbrev whole_after : after.search ≡ whole_search run.room
      whole_after = same ∙ h.whole

      pub begins_failing : (kind : FailureKind) → drives (begins_at (plain op) h.course) path ≡ (Err kind, trail after) → Leaves next run (Err kind) after noted
      begins_failing kind e =
          failed kind after noted
          (way.fails_begun run.room (marking None) next run.explores run.max_threads run.max_steps run.body run.path run.old (trail path) h.course.world.steps_left bodies h.course op h.at kind (trail after) (by_whole path (begins_at (plain op) h.course) (Err kind, trail after) h.whole e))

      -- it has come so far
      module _ (steps : old.state.steps_left ≡ new.state.steps_left + 1) (come : Begun D) (v : Course D) (shown : ShowsCourse v new after) (e : drives (begins_at (plain op) h.course) path ≡ (Ok (come, v), trail after)) where
        drawn : drive (whole_search run.room) (marking None) (begins_at (plain op) h.course) (trail path) ≡ (Ok (come, v), trail after)
        drawn = by_whole path (begins_at (plain op) h.course) (Ok (come, v), trail after) h.whole e

        one_less : h.course.world.steps_left ≡ suc v.world.steps_left
        one_less = let l = left_of h.course old path h.shown in let r = left_of v new after shown in omega (arith, steps)

        tables : IsTabled next run noted after
        tables = way.tables_same run.room (marking None) next run.explores run.max_threads run.max_steps run.body run.path run.old noted noted (trail path) (trail after) refl (way.stays_begun run.room (marking None) next run.explores run.max_threads run.max_steps run.body run.path run.old (trail path) h.course.world.steps_left bodies h.course op h.at (come, v) (trail after) drawn) h.tables

      -- what it has come to
      abbrev BegunIs : Begun D → Type 0
      BegunIs (begun.Turn turn) = ComesTo next run (Ok turn) all new after noted
      BegunIs begun.AtBranch = IsAtBranch next run all new after noted

      pub begins_to : (come : Begun D) → old.state.steps_left ≡ new.state.steps_left + 1 → (v : Course D) → ShowsCourse v new after → drives (begins_at (plain op) h.course) path ≡ (Ok (come, v), trail after) → BegunIs come
      begins_to (begun.Turn turn) steps v shown e =
          at_turn turn all v new after noted shown (tables steps (begun.Turn turn) v shown e) whole_after
          (subst (λ (n : ℕ). way.TurnIs run.room (marking None) next run.explores run.max_threads run.max_steps run.body run.path run.old (trail after) n all v turn) (one_less steps (begun.Turn turn) v shown e)
          (way.turned_begun run.room (marking None) next run.explores run.max_threads run.max_steps run.body run.path run.old (trail path) h.course.world.steps_left bodies h.course op h.at turn v (trail after) (drawn steps (begun.Turn turn) v shown e)))
      begins_to begun.AtBranch steps v shown e = record {
        course = v;
        shown = shown;
        at = subst (λ (n : ℕ). under.AtBranch run.room (marking None) next run.explores run.max_threads run.max_steps run.body run.path run.old (trail after) n all v) (one_less steps begun.AtBranch v shown e)
            (way.branched_begun run.room (marking None) next run.explores run.max_threads run.max_steps run.body run.path run.old (trail path) h.course.world.steps_left bodies h.course op h.at v (trail after) (drawn steps begun.AtBranch v shown e));
        tables = tables steps begun.AtBranch v shown e;
        whole = whole_after;
      }

  -- ---- a schedule

  exploring_so : (x : Exploring) → is_on x ≡ true → x ≡ On
  exploring_so On e = refl
  exploring_so Off e = absurd (cc e)
  exploring_so Skipping e = absurd (cc e)

  both : (a b : Bool) → (a && b) ≡ true → a ≡ true
  both true b e = refl
  both false b e = absurd (cc e)

  not_less : (m n : ℕ) → nat_le m n ≡ true → m ≤ n
  not_less m n e = search rules

  module _ (bodies : List S) (old : Progress D) (path : Route) (noted : Noted D S) (h : IsAtBranch next run bodies old path noted) where
    -- the state was noted
    pub met : is_on path.exploring ≡ true → is_used_up (trail path) ≡ true → (number : ℕ) (views : Views) → IsInOrder old.state.scene.views views → slice_get noted.states number ≡ Some (state_in noted.never old bodies views) → Meets next run number path noted
    met explores used number views order has =
        let all = not_less _ _ (both _ _ used) in
        let on = h.shown.exploring ∙ exploring_so path.exploring explores in (
          (h.tables, way.met_along run.room (marking None) next run.explores run.max_threads run.max_steps run.body run.path run.old (trail path) (suc h.course.world.steps_left) bodies h.course h.at all noted h.tables old path views h.shown order on number has),
          way.met_there run.room (marking None) next run.explores run.max_threads run.max_steps run.body run.path run.old (trail path) (suc h.course.world.steps_left) bodies h.course h.at all noted h.tables old path views h.shown order on number has,
        )

    module _ (new : Progress D) (after : Route) (same : after.search ≡ path.search) where
      pub schedule_fails : (kind : FailureKind) (more : Noted D S) → drives (schedule further_branches h.course) path ≡ (Err kind, trail after) → Leaves next run (Err kind) after more
      schedule_fails kind more e =
          failed kind after more
          (way.fails_on run.room (marking None) next run.explores run.max_threads run.max_steps run.body run.path run.old (trail path) (suc h.course.world.steps_left) bodies h.course h.at kind (trail after) (by_whole path (schedule further_branches h.course) (Err kind, trail after) h.whole e))

      -- it comes to a turn, once the state was noted or wasn't
      pub schedule_turns : (turn : Turn D) (more : Noted D S) (views : Views) → IsInOrder old.state.scene.views views → ((is_on path.exploring ≡ true) × (is_used_up (trail path) ≡ true) × NotesAs (state_in noted.never old bodies views) (chosen path) noted more) ⊎ (more ≡ noted) → new.state.steps_left ≡ old.state.steps_left
          → (v : Course D) → ShowsCourse v new after → drives (schedule further_branches h.course) path ≡ (Ok (turn, v), trail after) → ComesTo next run (Ok turn) bodies new after more
      schedule_turns turn more views order notes steps v shown e =
          let drawn : drive (whole_search run.room) (marking None) (schedule further_branches h.course) (trail path) ≡ (Ok (turn, v), trail after) =
          by_whole path (schedule further_branches h.course) (Ok (turn, v), trail after) h.whole e in
          let l = left_of h.course old path h.shown in
          let r = left_of v new after shown in
          let counted : suc h.course.world.steps_left ≡ suc v.world.steps_left = omega (arith, steps) in
          at_turn turn bodies v new after more shown (tabled turn more notes v drawn) (same ∙ h.whole)
          (subst (λ (n : ℕ). way.TurnIs run.room (marking None) next run.explores run.max_threads run.max_steps run.body run.path run.old (trail after) n bodies v turn) counted
          (way.turned_on run.room (marking None) next run.explores run.max_threads run.max_steps run.body run.path run.old (trail path) (suc h.course.world.steps_left) bodies h.course h.at turn v (trail after) drawn))
        where
          tabled : (turn : Turn D) (more : Noted D S) → ((is_on path.exploring ≡ true) × (is_used_up (trail path) ≡ true) × NotesAs (state_in noted.never old bodies views) (chosen path) noted more) ⊎ (more ≡ noted) → (v : Course D)
              → drive (whole_search run.room) (marking None) (schedule further_branches h.course) (trail path) ≡ (Ok (turn, v), trail after) → IsTabled next run more after
          tabled turn more (inl (explores, used, notes)) v drawn =
              way.tables_noted run.room (marking None) next run.explores run.max_threads run.max_steps run.body run.path run.old (trail path) (suc h.course.world.steps_left) bodies h.course h.at noted more old path views (turn, v) (trail after) h.shown order (h.shown.exploring ∙ exploring_so path.exploring explores) (not_less _ _ (both _ _ used)) notes drawn h.tables
          tabled turn more (inr same) v drawn =
              way.tables_same run.room (marking None) next run.explores run.max_threads run.max_steps run.body run.path run.old noted more (trail path) (trail after) same (way.stays_on run.room (marking None) next run.explores run.max_threads run.max_steps run.body run.path run.old (trail path) (suc h.course.world.steps_left) bodies h.course h.at (turn, v) (trail after) drawn) h.tables

  -- ---- what the code does

  -- an operation was begun
  module _ (bodies : List S) (old new : ExecutionState D) (path after : Route) (op : Op D S) (noted : Noted D S) (going : old.over ≡ None) (same : after.search ≡ path.search) (todo : Request D ⊤)
      (asked : todo ≡ plain op) (h : IsHanding next run bodies old.run path op noted) where
    pub begun_along : (result : Result (Begun D) Stop) → Begins old todo path result new after → Along (begins_at (plain op)) old.run path result new.run after
    begun_along result event =
        subst (λ (r : Request D ⊤). Along (begins_at r) old.run path result new.run after) asked (subst (λ (over : Option Stop). BeginsAt over old todo path result new after) going event).0

    pub begun_stops : (stop : Stop) → Begins old todo path (Err stop) new after → (more : List S) → ComesTo next run (Err (halt.Stopped stop)) more new.run after noted
    begun_stops (Because failure) event more = begins_failing bodies old.run path op noted h new.run after same failure.kind (begun_along (Err (Because failure)) event h.course h.shown)
    begun_stops Memory event more = tt

    pub begun_turns : (turn : Turn D) → Begins old todo path (Ok (begun.Turn turn)) new after → old.run.state.steps_left ≡ new.run.state.steps_left + 1 → (more : List S) → more ≡ with_child bodies (started op)
        → ComesTo next run (Ok turn) more new.run after noted
    begun_turns turn event steps more grown =
        let z = begun_along (Ok (begun.Turn turn)) event h.course h.shown in
        subst (λ (l : List S). ComesTo next run (Ok turn) l new.run after noted) (sym grown) (begins_to bodies old.run path op noted h new.run after same (begun.Turn turn) steps z.0 z.1 z.2)

    pub begun_branches : Begins old todo path (Ok begun.AtBranch) new after → old.run.state.steps_left ≡ new.run.state.steps_left + 1 → (more : List S) → more ≡ with_child bodies (started op)
        → IsAtBranch next run more new.run after noted
    begun_branches event steps more grown =
        let z = begun_along (Ok begun.AtBranch) event h.course h.shown in
        subst (λ (l : List S). IsAtBranch next run l new.run after noted) (sym grown) (begins_to bodies old.run path op noted h new.run after same begun.AtBranch steps z.0 z.1 z.2)

  -- a branch point was passed
  module _ (bodies : List S) (old new : ExecutionState D) (path after : Route) (noted more : Noted D S) (going : old.over ≡ None) (same : after.search ≡ path.search)
      (h : IsAtBranch next run bodies old.run path noted) where
    pub scheduled_along : (result : Result (Turn D) Stop) → Schedules old path result new after → Along (schedule further_branches) old.run path result new.run after
    scheduled_along result event =
        (subst (λ (over : Option Stop). HappensAt over (schedule further_branches) (AllNeedMemory itself (schedule further_branches)) old path result new after) going event).0

    pub scheduled_stops : (stop : Stop) → Schedules old path (Err stop) new after → ComesTo next run (Err (halt.Stopped stop)) bodies new.run after more
    scheduled_stops (Because failure) event = schedule_fails bodies old.run path noted h new.run after same failure.kind more (scheduled_along (Err (Because failure)) event h.course h.shown)
    scheduled_stops Memory event = tt

    pub scheduled_turns : (turn : Turn D) → Schedules old path (Ok turn) new after → LooksUpRun old.run bodies path noted New more → new.run.state.steps_left ≡ old.run.state.steps_left
        → ComesTo next run (Ok turn) bodies new.run after more
    scheduled_turns turn event looked steps =
        let z = scheduled_along (Ok turn) event h.course h.shown in
        schedule_turns bodies old.run path noted h new.run after same turn more looked.views looked.order looked.looks steps z.0 z.1 z.2

  -- its state was noted before
  pub met_there : (bodies : List S) (old : Progress D) (path : Route) (noted more : Noted D S) (number : ℕ) → LooksUpRun old bodies path noted (Known number) more → IsAtBranch next run bodies old path noted
      → Meets next run number path more
  met_there bodies old path noted more number looked h = subst (λ (l : Noted D S). Meets next run number path l) (sym looked.looks.3) (met bodies old path noted h looked.looks.0 looked.looks.1 number looked.views looked.order looked.looks.2)

  -- what comes of a branch point
  pub passes_so : (bodies : List S) (old new : ExecutionState D) (path after : Route) (noted more : Noted D S) → old.over ≡ None → after.search ≡ path.search → IsAtBranch next run bodies old.run path noted
      → (result : Result (Turn D) Halt) → Passes bodies old path noted result new after more → new.run.state.steps_left ≡ old.run.state.steps_left → ComesTo next run result bodies new.run after more
  passes_so bodies old new path after noted more going same h (Ok turn) p steps = scheduled_turns bodies old new path after noted more going same h turn p.1 p.0 steps
  passes_so bodies old new path after noted more going same h (Err (halt.Met number)) p steps =
      subst (λ (l : Route). ComesTo next run (Err (halt.Met number)) bodies new.run l more) (sym p.1) (met_there bodies old.run path noted more number p.0 h)
  passes_so bodies old new path after noted more going same h (Err (halt.Stopped (Because failure))) p steps = scheduled_stops bodies old new path after noted more going same h (Because failure) p
  passes_so bodies old new path after noted more going same h (Err (halt.Stopped Memory)) p steps = tt

  -- ---- a turn

  module _ (bodies : List S) (progress : Progress D) (path : Route) (thread : ℕ) (answer : Reply D) (noted : Noted D S) (h : IsUnderWay next run bodies progress path thread answer noted) where
    -- the thread's body hands over its next operation
    pub hands : (body after : S) (op : Op D S) → IsHanded next bodies thread answer body after op → IsHanding next run (slice_set bodies thread after) progress path op noted
    hands body after op is = record {
      course = h.course;
      shown = h.shown;
      at = way.hands_over run.room (marking None) next run.explores run.max_threads run.max_steps run.body run.path run.old h.course.world.steps_left bodies h.course thread answer body after op
          (slice_get_is bodies thread body is.within is.at) is.step (trail path) h.at;
      tables = h.tables;
      whole = h.whole;
    }

    -- it has no body
    pub no_body : length bodies ≤ thread → (stop : Stop) → stop ≡ Because (record { kind = Misuse; location = None }) → (more : List S) (later : Progress D) → ComesTo next run (Err (halt.Stopped stop)) more later path noted
    no_body past stop e more later =
        subst (λ (s : Stop). ComesTo next run (Err (halt.Stopped s)) more later path noted) (sym e)
        (failed Misuse path noted (way.nobody run.room (marking None) next run.explores run.max_threads run.max_steps run.body run.path run.old (trail path) h.course.world.steps_left bodies h.course thread answer h.at (slice_get_past bodies thread past)))

  -- the run ends as its last operation was answered
  pub stopped_so : (stop : Stop) (ending : Ending D) (bodies : List S) (progress : Progress D) (path : Route) (noted : Noted D S) → IsEndOf stop ending → ComesTo next run (Err (halt.Stopped stop)) bodies progress path noted
      → EndsWith next run ending path noted
  stopped_so (Because failure) ending bodies progress path noted e h = subst (λ (x : Ending D). EndsWith next run x path noted) (sym e) h
  stopped_so Memory ending bodies progress path noted e h = absurd e

  pub ended_so : (result : Result (Turn D) Halt) (ending : Ending D) (bodies : List S) (progress : Progress D) (path : Route) (noted : Noted D S) → IsEndBy result ending → ComesTo next run result bodies progress path noted
      → EndsWith next run ending path noted
  ended_so (Err (halt.Stopped stop)) ending bodies progress path noted e h = stopped_so stop ending bodies progress path noted e h
  ended_so (Err (halt.Met number)) ending bodies progress path noted e h = subst (λ (x : Ending D). EndsWith next run x path noted) (sym e) h
  ended_so (Ok (turn.Ended value)) ending bodies progress path noted e h = subst (λ (x : Ending D). EndsWith next run x path noted) (sym e) h
  ended_so (Ok (turn.Reply thread answer)) ending bodies progress path noted e h = absurd e
  ended_so (Ok (turn.Start thread)) ending bodies progress path noted e h = absurd e

  -- its end, if it has one
  pub end_of : {E : Type 0} (result : Result (Turn D) Halt) (ended : Result (Ending D) E) (bodies : List S) (progress : Progress D) (path : Route) (noted : Noted D S) → IfOk ended (IsEndBy result)
      → ComesTo next run result bodies progress path noted → IfOk ended (λ ending. EndsWith next run ending path noted)
  end_of result (Ok ending) bodies progress path noted e h = ended_so result ending bodies progress path noted e h
  end_of result (Err refused) bodies progress path noted e h = tt

  pub stop_of : {E : Type 0} (stop : Stop) (ended : Result (Ending D) E) (bodies : List S) (progress : Progress D) (path : Route) (noted : Noted D S) → IfOk ended (IsEndOf stop)
      → ComesTo next run (Err (halt.Stopped stop)) bodies progress path noted → IfOk ended (λ ending. EndsWith next run ending path noted)
  stop_of stop (Ok ending) bodies progress path noted e h = stopped_so stop ending bodies progress path noted e h
  stop_of stop (Err refused) bodies progress path noted e h = tt

  -- ---- its beginning

  pub starts_so : (path : Route) → path.position ≡ 0 → path.given ≡ [] → at_start (stored path.nodes) ≡ trail path
  starts_so path e f = ap₂ (λ (k : ℕ) (l : List Choice). let t : Trail = record { nodes = stored path.nodes; position = k; given = l } in t) (sym e) (sym f)

  pub begins_so : (bodies : List S) (progress : Progress D) (path : Route) → bodies ≡ run.body ∷ [] → ShowsCourse (opening run.explores run.max_threads run.max_steps) progress path
      → at_start run.path ≡ trail path → path.search ≡ whole_search run.room → AreNoted next run → IsUnderWay next run bodies progress path 0 reply.Start run.old
  begins_so bodies progress path one shown starts whole are = record {
    course = opening run.explores run.max_threads run.max_steps;
    shown = shown;
    at = subst (λ (l : List S). under.AtTurn run.room (marking None) next run.explores run.max_threads run.max_steps run.body run.path run.old (trail path) (suc run.max_steps) l (opening run.explores run.max_threads run.max_steps) 0 reply.Start) (sym one)
        (subst (λ (t : Trail). under.AtTurn run.room (marking None) next run.explores run.max_threads run.max_steps run.body run.path run.old t (suc run.max_steps) (run.body ∷ []) (opening run.explores run.max_threads run.max_steps) 0 reply.Start) starts
        (way.turn_begins run.room (marking None) next run.explores run.max_threads run.max_steps run.body run.path run.old));
    tables = subst (λ (t : Trail). under.Tables run.room (marking None) next run.explores run.max_threads run.max_steps run.body run.path run.old run.old t) starts
        (way.tables_begin run.room (marking None) next run.explores run.max_threads run.max_steps run.body run.path run.old are);
    whole = whole;
  }

-- a run that has come to a turn goes on
pub stays_open : {D : Type 0} (turn : Turn D) (over : Option Stop) → over ≡ None → StaysOpen (Ok turn) over
stays_open (turn.Reply thread answer) over e = e
stays_open (turn.Start thread) over e = e
stays_open (turn.Ended value) over e = tt

pub stays_so : {D : Type 0} (turn : Turn D) (over : Option Stop) → over ≡ over_after (Ok turn) → StaysOpen (Ok turn) over
stays_so (turn.Reply thread answer) over e = e
stays_so (turn.Start thread) over e = e
stays_so (turn.Ended value) over e = tt

module _ {D : Type 0} where
  -- an operation was begun in an execution that isn't over
  pub over_then : (old new : ExecutionState D) (todo : Request D ⊤) (path after : Route) (come : Begun D) → old.over ≡ None → Begins old todo path (Ok come) new after → new.over ≡ None
  over_then old new todo path after come going event = (subst (λ (over : Option Stop). BeginsAt over old todo path (Ok come) new after) going event).1

  pub over_scheduled : (old new : ExecutionState D) (path after : Route) (result : Result (Turn D) Stop) → old.over ≡ None → Schedules old path result new after → new.over ≡ over_after result
  over_scheduled old new path after result going event =
      (subst (λ (over : Option Stop). HappensAt over (schedule further_branches) (AllNeedMemory itself (schedule further_branches)) old path result new after) going event).1

-- a schedule was stopped
pub schedule_stops : {D S : Type 0} (bodies : List S) (old new : ExecutionState D) (path after : Route) (noted more : Noted D S) (stop : Stop) → Schedules old path (Err stop) new after
    → Passes bodies old path noted (Err (halt.Stopped stop)) new after more
schedule_stops bodies old new path after noted more (Because failure) event = event
schedule_stops bodies old new path after noted more Memory event = tt

-- what holds holds where a call succeeds
pub on_ok : {A E : Type 0} {X : Type 0} (result : Result A E) → X → OnOk result X
on_ok (Ok value) x = x
on_ok (Err e) x = tt
