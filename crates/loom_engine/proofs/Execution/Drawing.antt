-- A run whose choices are drawn, as the run along a path that was given them.
use Rattle.std.proofs.Common.{◌≡◌, ℕ, suc, Bool, true, List, length, refl, ap, sym, ◌∙◌, subst}
use Rattle.std.specs.Prelude.{slice_get, Option, Some, None, Result, Ok, Err, ⊤}
use Rattle.loom_views.specs.Views.{Points}
use Rattle.loom_views.specs.declared.rt.failure.FailureKind.{FailureKind}
use Rattle.loom_views.specs.declared.rt.failure.FailureKind.TheVariants.{Misuse}
use Rattle.loom_objects.specs.declared.choice.Choice.{Choice}
use Rattle.loom_objects.specs.declared.choice.Choice.TheVariants.{Thread, Load, Spurious}
use Rattle.loom_objects.specs.declared.failure.Stop.{Stop}
use Rattle.loom_objects.specs.declared.failure.Stop.TheVariants.{Failure, Memory}
use Rattle.loom_objects.specs.declared.operation.ExploreOp.{ExploreOp}
use Rattle.loom_objects.specs.declared.operation.Reply.TheVariants as reply
use Rattle.loom_objects.specs.declared.operation.Request.{Request}
use Rattle.loom_objects.specs.declared.operation.Turn.{Turn}
use Rattle.loom_objects.specs.declared.operation.Turn.TheVariants as turn
use Rattle.loom_objects.specs.declared.rt.exploring.Exploring.{Exploring}
use Rattle.loom_objects.specs.declared.rt.run.Loading.{Loading}
use Rattle.loom_objects.specs.declared.rt.run.Passed.{Passed}
use Rattle.loom_objects.specs.declared.rt.run.Passed.TheVariants as passed
use Rattle.loom_objects.specs.declared.rt.run.Resumed.TheVariants as resumed
use Rattle.loom_objects.specs.declared.rt.schedule.Offers.{Offers}
use Rattle.loom_objects.specs.Dependence.Shown.{Keeps}
use Rattle.loom_objects.specs.Exploring.{is_on, switched}
use Rattle.loom_objects.specs.Operation.Accessed.{accessed}
use Rattle.loom_objects.specs.Rules.Ending.{all_ended, end_of}
use Rattle.loom_objects.specs.Rules.Steps.{ends, enters_wait, read_by, resumes}
use Rattle.loom_objects.specs.Rules.Uses.{use_at}
use Rattle.loom_objects.specs.Scene.Shown.{Shows, Resumes, Comes as world_comes}
use Rattle.loom_objects.specs.Scene.Stage.{KeepsAt, world_of}
use Rattle.loom_objects.specs.Schedule.Offers.{offers}
use Rattle.loom_objects.specs.Tree.Asked.{which_thread, whether_spurious}
use Rattle.loom_objects.specs.Tree.Stores.{which_store}
use Rattle.loom_objects.specs.Tree.Tree.{Gives, came}
use Rattle.loom_objects.specs.World.{World}
use Rattle.loom_engine.specs.declared.rt.execution.Progress.{Progress}
use Rattle.loom_engine.specs.Drawing.{AlongDrawn, Leads, LeadsOn, SubmitsDrawn, SubmitsDrawnAt}
use Rattle.loom_engine.specs.Execution.{Comes, ExecutionState, Notes, ShowsCourse, may_end, over_after, takes_turn}
use Rattle.loom_engine.specs.Path.Drawn.{Draws, IsDrawn, MakesMore, led_by}
use Rattle.loom_engine.specs.Path.Route.{IsSame, Route, Switches, SwitchesAs, chosen}
use Rattle.loom_engine.specs.Runs.Course.{Course, used_in}
use Rattle.loom_engine.specs.Runs.Machine.{closes, further_branches, is_asked, passes, schedule, submit, switches}
use Rattle.loom_engine.specs.Trees.Meeting.{Settings}
use Rattle.loom_engine.specs.Walk.Lists.{Begins}
use Rattle.loom_engine.proofs.Covering.Ending.{ended_turn}
use Rattle.loom_engine.proofs.Execution.Executing.{IsSchedule, access_refused, closes_by, left_unmarked, load_stops, nobody_chosen, noted_by, pass_stops, passed_with, schedule_refused, slot_read, stays_open, switch_fails, switches_so, takes_at_once, thread_chosen, too_many, turn_passed, wait_goes, wait_stops, wake_stops}
use Rattle.loom_engine.proofs.Execution.Growing.{IsLeft, left_comes, left_further}
use Rattle.loom_engine.proofs.Path.Drawing.{begins_all, begins_so, is_all_used}

same_led : (given : List Choice) (old new : Route) → IsSame old new → IsSame (led_by given old) (led_by given new)
same_led given old new s = ((s.0.0, s.0.1, refl), s.1)

pub more_by : (old mid new : Route) → MakesMore old mid → MakesMore mid new → MakesMore old new
more_by old mid new one other = begins_so (chosen old) (chosen mid) (chosen new) one other

pub stays_drawn : (path via : Route) → IsDrawn path → length via.nodes ≡ via.position → IsSame path via → IsDrawn via
stays_drawn path via drawn past same = (past, same.0.2 ∙ drawn.1, ap (λ (s : Settings). s.reduce) same.0.0 ∙ drawn.2)

switched_led : (given : List Choice) (path after : Route) (todo : ExploreOp) (result : Result ⊤ FailureKind) → Switches path todo result after → Switches (led_by given path) todo result (led_by given after)
switched_led given path after todo result h = by (switched todo path.exploring) h
  where
    by : (r : Result Exploring FailureKind) → SwitchesAs r path result after → SwitchesAs r (led_by given path) result (led_by given after)
    by (Ok exploring) h = (h.0, ap (led_by given) h.1)
    by (Err kind) h = (h.0, ap (led_by given) h.1)

-- it keeps the choices that were made
pub switch_keeps : (path after : Route) (todo : ExploreOp) (result : Result ⊤ FailureKind) → IsDrawn path → Switches path todo result after → MakesMore path after × IsDrawn after
switch_keeps path after todo result drawn h = by (switched todo path.exploring) h
  where
    by : (r : Result Exploring FailureKind) → SwitchesAs r path result after → MakesMore path after × IsDrawn after
    by (Ok exploring) h = subst (λ (r : Route). MakesMore path r × IsDrawn r) (sym h.1) (begins_all (chosen path) (chosen path) refl, drawn)
    by (Err kind) h = subst (λ (r : Route). MakesMore path r × IsDrawn r) (sym h.1) (begins_all (chosen path) (chosen path) refl, drawn)

module _ {D : Type 0} where
  -- what is given begins with the choices that were made
  pub leads_begins : (result : Result (Turn D) Stop) (new : Route) (given : List Choice) → Leads result new given → Begins (chosen new) given
  leads_begins (Ok (turn.Reply thread answer)) new given l = l
  leads_begins (Ok (turn.Start thread)) new given l = l
  leads_begins (Ok (turn.Ended value)) new given l = begins_all (chosen new) given l
  leads_begins (Err stop) new given l = begins_all (chosen new) given l

  pub passed_begins : (result : Result (Passed D) Stop) (new : Route) (given : List Choice) → LeadsOn result new given → Begins (chosen new) given
  passed_begins (Ok (passed.Turn turned)) new given l = leads_begins (Ok turned) new given l
  passed_begins (Ok passed.AtBranch) new given l = l
  passed_begins (Err stop) new given l = begins_all (chosen new) given l

  -- ---- one schedule

  module _ (old : Progress D) (offered : Offers) (path : Route) (drawn : IsDrawn path)
      (offered_is : (points : Points) (left : ℕ) → offered ≡ offers (world_of points left old.state.scene)) where
    unmarked_by : (given : List Choice) → IsSchedule old offered (led_by given path) (led_by given path)
    unmarked_by given = record { offered_is = offered_is; marks = left_unmarked old (led_by given path) drawn.2; same = ((refl, refl, refl), refl) }

    -- which thread goes on is drawn
    abbrev pub DrawsThread : Result (Option ℕ) Stop → Route → Type 0
    DrawsThread result via = (places : List (Option ℕ)) → Draws Thread path (which_thread (is_on path.exploring) offered places) result via

    pub none_drawn : (stop : Stop) (via : Route) → DrawsThread (Err stop) via → AlongDrawn LeadsOn passes old path (Err stop) old via
    none_drawn (Failure failure) via says given l =
        schedule_refused old offered (led_by given path) (led_by given path) (unmarked_by given) (led_by given via) (Failure failure)
        (λ places. says places (λ e. cc e) given (begins_all (chosen via) given l))
    none_drawn Memory via says given l = λ c shown. tt

    module _ (via : Route) (same : IsSame path via) where
      -- its access can't be noted
      pub unnoted_drawn : (thread place : ℕ) → DrawsThread (Ok (Some thread)) via → (stop : Stop) (new : Progress D) → place ≡ path.position
          → ((c : Course D) → Keeps via.search.reduce c.order old.dependence → c.passed ≡ place → Notes via.search.reduce (used_in thread c (use_at old.state.scene.threads thread)) (Err stop) new.dependence)
          → AlongDrawn LeadsOn passes old path (Err stop) new via
      unnoted_drawn thread place says stop new at notes given l =
          access_refused old offered (led_by given path) (led_by given path) (unmarked_by given) (led_by given via) (same_led given path via same) thread
          (λ places. says places (λ e. cc e) given (begins_all (chosen via) given l)) stop new
          (noted_by old (led_by given path) (led_by given via) same.0.0 thread place (Err stop) new.dependence at notes)

      -- it goes on
      pub thread_drawn : (thread place : ℕ) → DrawsThread (Ok (Some thread)) via → (mid : Progress D) → place ≡ path.position
          → ((c : Course D) → Keeps via.search.reduce c.order old.dependence → c.passed ≡ place → Notes via.search.reduce (used_in thread c (use_at old.state.scene.threads thread)) (Ok tt) mid.dependence)
          → mid.state ≡ old.state → (result : Result (Passed D) Stop) (new : Progress D) (after : Route) → MakesMore via after
          → AlongDrawn LeadsOn (takes_turn thread) mid via result new after → AlongDrawn LeadsOn passes old path result new after
      thread_drawn thread place says mid at notes state result new after more along given l =
          thread_chosen old offered (led_by given path) (led_by given path) (unmarked_by given) (led_by given via) (same_led given path via same) thread
          (λ places. says places (λ e. cc e) given (begins_so (chosen via) (chosen after) given more (passed_begins result after given l))) mid
          (noted_by old (led_by given path) (led_by given via) same.0.0 thread place (Ok tt) mid.dependence at notes) state result new (led_by given after) (along given l)

      -- none can go on
      pub nobody_drawn : DrawsThread (Ok None) via → (result : Result (Turn D) Stop) (new : Progress D) → AlongDrawn Leads closes old via result new via
          → AlongDrawn LeadsOn passes old path (passed_with result) new via
      nobody_drawn says result new along given l =
          nobody_chosen old offered (led_by given path) (led_by given path) (unmarked_by given) (led_by given via) (same_led given path via same)
          (λ places. says places (λ e. cc e) given (leads_begins result via given (turned result given l))) result new (led_by given via)
          (along given (turned result given l))
        where
          turned : (result : Result (Turn D) Stop) (given : List Choice) → LeadsOn (passed_with result) via given → Leads result via given
          turned (Ok t) given l = l
          turned (Err stop) given l = l

  -- ---- schedules up to a turn

  module _ (more : ℕ) (old : Progress D) (path : Route) where
    -- the schedules that are left end as all do, along each path that was given what the run has made so far
    abbrev pub IsLeftDrawn : ℕ → Progress D → Route → Type 0
    IsLeftDrawn left run here = (given : List Choice) → Begins (chosen here) given → IsLeft more old (led_by given path) left run (led_by given here)

    module _ (left : ℕ) (run : Progress D) (here : Route) (is : IsLeftDrawn left run here) (mid : Progress D) (via : Route) (makes : MakesMore here via) where
      so_far : (given : List Choice) → Begins (chosen via) given → IsLeft more old (led_by given path) left run (led_by given here)
      so_far given b = is given (begins_so (chosen here) (chosen via) given makes b)

      pub branch_drawn : (fewer : ℕ) → left ≡ suc fewer → AlongDrawn LeadsOn passes run here (Ok passed.AtBranch) mid via → IsSame here via → mid.state.steps_left ≡ run.state.steps_left
          → IsLeftDrawn fewer mid via
      branch_drawn fewer e along same steps given b =
          left_further more old (led_by given path) left run (led_by given here) (so_far given b) fewer mid (led_by given via) e (along given b) (same_led given here via same) steps

      pub stops_drawn : (stop : Stop) → AlongDrawn LeadsOn passes run here (Err stop) mid via → AlongDrawn Leads (schedule more) old path (Err stop) mid via
      stops_drawn stop along given l =
          left_comes more old (led_by given path) left run (led_by given here) (so_far given (begins_all (chosen via) given l)) (Err stop) mid (led_by given via)
          (pass_stops run mid (led_by given here) (led_by given via) left stop (along given l))

      pub turn_drawn : (turned : Turn D) → AlongDrawn LeadsOn passes run here (Ok (passed.Turn turned)) mid via → AlongDrawn Leads (schedule more) old path (Ok turned) mid via
      turn_drawn turned along given l =
          left_comes more old (led_by given path) left run (led_by given here) (so_far given (leads_begins (Ok turned) via given l)) (Ok turned) mid (led_by given via)
          (turn_passed run mid (led_by given here) (led_by given via) left turned (along given l))

      pub too_many_drawn : left ≡ 0 → AlongDrawn LeadsOn passes run here (Ok passed.AtBranch) mid via
          → AlongDrawn Leads (schedule more) old path (Err (Failure (record { kind = Misuse; location = None }))) mid via
      too_many_drawn none along given l =
          let b = begins_all (chosen via) given l in
          left_comes more old (led_by given path) left run (led_by given here) (so_far given b) (Err (Failure (record { kind = Misuse; location = None }))) mid (led_by given via)
          (too_many run mid (led_by given here) (led_by given via) left none (along given b))

  -- ---- what a chosen thread has pending

  pub at_once_drawn : (t : ℕ) (old new : Progress D) (path : Route) (result : Result (Passed D) Stop)
      → ((exploring : Bool) (w : World D) → Shows w old.state → world_comes (resumes exploring t w) result new.state) → new.dependence ≡ old.dependence
      → AlongDrawn LeadsOn (takes_turn t) old path result new path
  at_once_drawn t old new path result does kept given l = takes_at_once t old new (led_by given path) result does kept

  module _ (t : ℕ) (load : Loading) (old mid : Progress D) (path via : Route)
      (does : (exploring : Bool) (w : World D) → Shows w old.state → Resumes exploring (resumes exploring t w) (Ok (resumed.Load load)) mid.state) (kept : mid.dependence ≡ old.dependence) where
    pub no_load_drawn : (stop : Stop) → Draws Load path (which_store (is_on path.exploring) load.readable) (Err stop) via → AlongDrawn LeadsOn (takes_turn t) old path (Err stop) mid via
    no_load_drawn (Failure failure) says given l =
        load_stops t load old mid (led_by given path) (led_by given via) does kept (Failure failure) (says (λ e. cc e) given (begins_all (chosen via) given l))
    no_load_drawn Memory says given l = λ c shown. tt

    pub slot_drawn : (slot : ℕ) → Draws Load path (which_store (is_on path.exploring) load.readable) (Ok slot) via → IsSame path via → slice_get load.readable slot ≡ Some true
        → (result : Result (Turn D) Stop) (new : Progress D) → new.dependence ≡ mid.dependence
        → ((w : World D) → Shows w mid.state → KeepsAt w.points (accessed load.access) slot → world_comes (read_by load w (Load slot)) result new.state)
        → AlongDrawn LeadsOn (takes_turn t) old path (passed_with result) new via
    slot_drawn slot says same readable result new unchanged reads given l =
        slot_read t load old mid (led_by given path) (led_by given via) does kept slot
        (says (λ e. cc e) given (passed_begins (passed_with result) via given l)) (same_led given path via same) readable result new unchanged reads

  -- ---- a wait

  module _ (n : ℕ) (old : Progress D) (path via : Route) where
    pub no_wake_drawn : (stop : Stop) → Draws Spurious path (whether_spurious (is_on path.exploring)) (Err stop) via → AlongDrawn Leads (is_asked n) old path (Err stop) old via
    no_wake_drawn (Failure failure) says given l =
        wake_stops n old (led_by given path) (Failure failure) (led_by given via) (says (λ e. cc e) given (begins_all (chosen via) given l))
    no_wake_drawn Memory says given l = λ c shown. tt

    module _ (is_spurious : Bool) (says : Draws Spurious path (whether_spurious (is_on path.exploring)) (Ok is_spurious) via) (same : IsSame path via) (mid : Progress D) where
      pub no_wait_drawn : (stop : Stop) → ((w : World D) → Shows w old.state → world_comes (enters_wait is_spurious n w) (Err stop) mid.state) → AlongDrawn Leads (is_asked n) old path (Err stop) mid via
      no_wait_drawn stop does given l =
          wait_stops n old (led_by given path) is_spurious (led_by given via) (says (λ e. cc e) given (begins_all (chosen via) given l)) (same_led given path via same) stop mid does

      pub wait_drawn : ((w : World D) → Shows w old.state → world_comes (enters_wait is_spurious n w) (Ok tt) mid.state) → mid.dependence ≡ old.dependence
          → (result : Result (Turn D) Stop) (new : Progress D) (after : Route) → MakesMore via after → AlongDrawn Leads (schedule further_branches) mid via result new after
          → AlongDrawn Leads (is_asked n) old path result new after
      wait_drawn does kept result new after more onward given l =
          wait_goes n old (led_by given path) is_spurious (led_by given via)
          (says (λ e. cc e) given (begins_so (chosen via) (chosen after) given more (leads_begins result after given l))) (same_led given path via same) mid does kept result new
          (led_by given after) (onward given l)

  -- ---- a switch

  module _ (todo : ExploreOp) (run : Progress D) (path after : Route) where
    pub switches_drawn : (active : ℕ) → active ≡ run.state.scene.active → Switches path todo (Ok tt) after → AlongDrawn Leads (switches todo) run path (Ok (turn.Reply active reply.Done)) run after
    switches_drawn active is h given l = switches_so todo run (led_by given path) (led_by given after) active is (switched_led given path after todo (Ok tt) h)

    pub no_switch_drawn : (kind : FailureKind) → Switches path todo (Err kind) after → AlongDrawn Leads (switches todo) run path (Err (Failure (record { kind = kind; location = None }))) run after
    no_switch_drawn kind h given l = switch_fails todo run (led_by given path) (led_by given after) kind (switched_led given path after todo (Err kind) h)

  -- ---- the end

  came_ok : (r : Result (Turn D × World D) FailureKind) (a : Turn D × World D) → came r ≡ Gives a → r ≡ Ok a
  came_ok (Ok b) a e = let is : b ≡ a = cc e in ap Ok is
  came_ok (Err kind) a e = absurd (cc e)

  module _ (old : Progress D) (path : Route) (drawn : IsDrawn path) (ended : Bool) (all : (c : Course D) → ShowsCourse c old path → all_ended c.world ≡ ended) where
    pub open_drawn : (kind : FailureKind) → may_end ended true ≡ Err kind → AlongDrawn Leads closes old path (Err (Failure (record { kind = kind; location = None }))) old path
    open_drawn kind e given l =
        stays_open old (led_by given path) ended true (λ c shown. all c (record { world = shown.world; order = shown.order; place = shown.place; exploring = shown.exploring }))
        (is_all_used path given drawn l) kind e

    pub closes_drawn : may_end ended true ≡ Ok tt → (result : Result (Turn D) Stop) (new : Progress D) → new.dependence ≡ old.dependence
        → ((w : World D) → Shows w old.state → world_comes (ends w) result new.state) → AlongDrawn Leads closes old path result new path
    closes_drawn e result new kept does given l c shown = by result does l
      where
        closed : (result : Result (Turn D) Stop) → ((w : World D) → Shows w old.state → world_comes (ends w) result new.state) → given ≡ chosen path → Comes (closes c) (led_by given path) result new (led_by given path)
        closed result does l =
            closes_by old (led_by given path) ended true (λ c shown. all c (record { world = shown.world; order = shown.order; place = shown.place; exploring = shown.exploring }))
            (is_all_used path given drawn l) e result new kept does c shown

        by : (result : Result (Turn D) Stop) → ((w : World D) → Shows w old.state → world_comes (ends w) result new.state) → Leads result path given → Comes (closes c) (led_by given path) result new (led_by given path)
        by (Err stop) does l = closed (Err stop) does l
        by (Ok (turn.Ended value)) does l = closed (Ok (turn.Ended value)) does l
        by (Ok (turn.Reply thread answer)) does l =
            let come = does c.world shown.world in absurd (ended_turn c.world (turn.Reply thread answer) come.0 (came_ok (end_of c.world) (turn.Reply thread answer, come.0) come.2))
        by (Ok (turn.Start thread)) does l =
            let come = does c.world shown.world in absurd (ended_turn c.world (turn.Start thread) come.0 (came_ok (end_of c.world) (turn.Start thread, come.0) come.2))

  -- ---- one event

  pub submits_drawn : (old new : ExecutionState D) (op : Request D ⊤) (path after : Route) (answer : Result (Turn D) Stop) → old.over ≡ None → AlongDrawn Leads (submit op) old.run path answer new.run after
      → new.over ≡ over_after answer → SubmitsDrawn old op path answer new after
  submits_drawn old new op path after answer going along over = subst (λ (o : Option Stop). SubmitsDrawnAt o old op path answer new after) (sym going) (along, over)
