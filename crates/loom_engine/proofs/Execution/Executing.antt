-- Schedules along a path, from what the chosen threads do.
use Rattle.std.proofs.Common.{◌≡◌, ◌+◌, ◌-◌, ◌<◌, length, ℕ, zero, suc, Bool, true, false, List, [], ◌∷◌, ap, ap₂, refl, sym, ◌∙◌, subst, arith}
use Rattle.std.specs.Result.{is_err}
use Rattle.std.specs.Prelude.{◌&&◌, cond, is_ok, IfErr, nat_lt, slice_get, Option, Some, None, Result, Ok, Err, ⊤}
use Rattle.loom_views.specs.Views.{Points}
use Rattle.loom_views.specs.declared.rt.failure.FailureKind.{FailureKind}
use Rattle.loom_views.specs.declared.rt.failure.FailureKind.TheVariants.{Deadlock, Misuse, NotDeterministic, TooManyBranches}
use Rattle.loom_objects.specs.declared.rt.dependence.Use.{Use}
use Rattle.loom_objects.specs.declared.choice.Choice.{Choice}
use Rattle.loom_objects.specs.declared.choice.Choice.TheVariants.{Thread, Load, Spurious}
use Rattle.loom_objects.specs.declared.failure.Stop.{Stop}
use Rattle.loom_objects.specs.declared.failure.Stop.TheVariants.{Failure, Memory}
use Rattle.loom_objects.specs.declared.operation.Request.{Request}
use Rattle.loom_objects.specs.declared.operation.Turn.{Turn}
use Rattle.loom_objects.specs.declared.rt.run.Passed.{Passed}
use Rattle.loom_objects.specs.declared.rt.run.Passed.TheVariants as passed
use Rattle.loom_objects.specs.declared.rt.schedule.Offers.{Offers}
use Rattle.loom_objects.specs.Tree.Asked.{which_thread, whether_spurious}
use Rattle.loom_objects.specs.Tree.Stores.{which_store, asked_store, slots}
use Rattle.loom_objects.specs.Exploring.{is_on, switched}
use Rattle.loom_objects.specs.declared.operation.ExploreOp.{ExploreOp}
use Rattle.loom_objects.specs.declared.operation.Reply.TheVariants as reply
use Rattle.loom_objects.specs.declared.rt.exploring.Exploring.{Exploring}
use Rattle.loom_objects.specs.Tree.Question.{Question, made_of}
use Rattle.loom_objects.specs.Scene.Stage.{KeepsAt, world_of}
use Rattle.loom_objects.specs.Schedule.Offers.{offers}
use Rattle.loom_objects.specs.Tree.Tree.{Tree, Gives, Fails, Closes, Asks, ◌>>=◌, came, check}
use Rattle.loom_objects.specs.World.{World}
use Rattle.loom_objects.specs.Rules.Ending.{all_ended}
use Rattle.loom_objects.specs.Operation.Accessed.{accessed}
use Rattle.loom_objects.specs.Scene.Shown.{Shows, Resumes, Comes as world_comes}
use Rattle.loom_objects.specs.Rules.Steps.{begins, ends, enters_wait, read_by, resumes, turned as world_turned}
use Rattle.loom_objects.specs.declared.operation.Reply.{Reply}
use Rattle.loom_objects.specs.declared.operation.Turn.TheVariants as turn
use Rattle.loom_objects.specs.declared.rt.run.Entry.{Entry}
use Rattle.loom_objects.specs.declared.rt.run.Entry.TheVariants.{Answered}
use Rattle.loom_objects.specs.declared.rt.run.Loading.{Loading}
use Rattle.loom_objects.specs.declared.rt.run.Resumed.TheVariants as resumed
use Rattle.loom_objects.specs.Dependence.Order.{Order, grown, unordered}
use Rattle.loom_objects.specs.declared.rt.dependence.Dependence.{Dependence}
use Rattle.loom_objects.specs.Rules.Tables.{counted, needs_memory}
use Rattle.loom_objects.specs.declared.rt.run.RunState.{RunState}
use Rattle.loom_engine.proofs.Runs.Growth.{made_needs_memory}
use Rattle.loom_objects.specs.Dependence.Shown.{Keeps, ShowsOrder}
use Rattle.loom_objects.specs.Rules.Uses.{use_at, uses}
use Rattle.loom_engine.specs.declared.rt.execution.Progress.{Progress}
use Rattle.loom_engine.specs.Execution.{ExecutionState, Notes, Starts, ShowsCourse, IsMarked, Comes, Along, AllNeedMemory, HappensAt, MayBeRefused, Schedules, Submits, SubmitsAt, itself, may_end, over_after, takes_turn}
use Rattle.loom_engine.specs.Path.Route.{Route, IsSame, Switches, SwitchesAs, trail, Decides, Backtracks, drives}
use Rattle.loom_engine.specs.Runs.Course.{Course, carried, grown_from, one_passed, unordered_in, used_in, with_order}
use Rattle.loom_engine.specs.Runs.Machine.{closes, chooses, goes_by, goes_on, is_asked, passes, turned, further, further_branches, schedule, submit, switches, waits}
use Rattle.loom_engine.specs.Trees.Meeting.{Settings, count, every_at, front_of}
use Rattle.loom_engine.specs.Trees.Drive.{Trail, Answer, branch, branch_at, backtrack, is_used_up, lengthen, marked, new_node, passes_of, drive, drive_on}
use Rattle.loom_engine.specs.Trees.Marks.{marking, adds_any, unordered_in as pairs_in, is_off_bound}
use Rattle.loom_engine.specs.Trees.Comparing.{same_made}
use Rattle.loom_engine.specs.Walk.Choices.{pick}
use Rattle.loom_engine.specs.Walk.Path.{Stored}
use Rattle.loom_engine.proofs.Walk.UnderWay.{with_none, with_same}
use Rattle.loom_engine.proofs.Trees.Binding.{drive_then, drive_fails}

-- ---- a question

none_both : (b : Bool) → (b && false) ≡ false
none_both true = refl
none_both false = refl

no_marks : (reduce : Bool) (marks : ℕ → Choice → Bool) (nodes : List Stored) → ((k : ℕ) (o : Choice) → marks k o ≡ false) → marked reduce marks nodes ≡ nodes
no_marks false marks nodes none = refl
no_marks true marks nodes none = with_same marks (λ k o. false) zero nodes (λ k o l. none k o) ∙ sym (with_none zero nodes)

-- a question that isn't a schedule marks nothing
pub unmarked : (s : Settings) (path : Trail) (question : Question) → pairs_in question ≡ [] → backtrack s (marking s.bound) path question ≡ path
unmarked s path question none =
    ap (λ (nodes : List Stored). record path { nodes = nodes })
    (no_marks s.reduce (marking s.bound (passes_of path) question) path.nodes
    (λ k o. ap (λ pairs. is_off_bound s.bound (count (front_of k (passes_of path))) && adds_any s.bound (passes_of path) k o pairs) none
    ∙ none_both (is_off_bound s.bound (count (front_of k (passes_of path))))))

-- and a search that isn't reduced marks nothing
pub whole_unmarked : (s : Settings) (path : Trail) (question : Question) → s.reduce ≡ false → backtrack s (marking s.bound) path question ≡ path
whole_unmarked s path question whole = ap (λ (reduce : Bool). record path { nodes = marked reduce (marking s.bound (passes_of path) question) path.nodes }) whole

module _ {A : Type 0} (question : Question) (branches : Choice → Tree A) (path mid : Route) (marks : trail mid ≡ backtrack path.search (marking path.search.bound) (trail path) question) (search : mid.search ≡ path.search) where
  abbrev pub going : Choice → Trail → Result A FailureKind × Trail
  going choice left = drive path.search (marking path.search.bound) (branches choice) left

  -- the path makes the marks of a question and answers it
  pub marked_first : (answer : Answer) → branch mid.search (trail mid) question ≡ answer → drives (Asks question branches) path ≡ drive_on going answer
  marked_first answer e =
      ap (λ (t : Trail). drive_on going (branch path.search t question)) (sym marks)
      ∙ ap (λ (s : Settings). drive_on going (branch s (trail mid) question)) (sym search)
      ∙ ap (drive_on going) e

  -- and the tree goes on
  pub asked : (after : Route) (choice : Choice) → after.search ≡ mid.search → branch mid.search (trail mid) question ≡ (Ok choice, trail after)
      → drives (Asks question branches) path ≡ drives (branches choice) after
  asked after choice same e =
      marked_first (Ok choice, trail after) e ∙ ap (λ (s : Settings). drive s (marking s.bound) (branches choice) (trail after)) (sym (same ∙ search))

  -- or it refuses
  pub refused : (kind : FailureKind) → branch mid.search (trail mid) question ≡ (Err kind, trail mid) → drives (Asks question branches) path ≡ (Err kind, trail mid)
  refused kind e = marked_first (Err kind, trail mid) e

plus_one : (n : ℕ) → n + 1 ≡ suc n
plus_one n = omega arith

-- a question which store marks nothing
pub no_pairs : (exploring : Bool) (numbers : List ℕ) → pairs_in (asked_store exploring numbers) ≡ []
no_pairs exploring [] = refl
no_pairs exploring (lowest ∷ others) = refl

-- ---- an answer passes a node

abbrev IsFurther : ℕ → Answer → Type 0
IsFurther n (Ok choice, after) = after.position ≡ n + 1
IsFurther n (Err kind, after) = Unit {0}

lengthened : (path : Trail) (new : Option Stored) → IsFurther path.position (lengthen path new)
lengthened path None = tt
lengthened path (Some n) = refl

followed : {B : Type 0} (d : Dec B) (path : Trail) (n : Stored) → IsFurther path.position (pick d (Ok n.present, record path { position = path.position + 1 }) (Err NotDeterministic, path))
followed (yes x) path n = refl
followed (no x) path n = tt

made_if : (b : Bool) (path : Trail) (answer : Answer) → IsFurther path.position answer → IsFurther path.position (cond b answer (Err TooManyBranches, path))
made_if true path answer h = h
made_if false path answer h = tt

answered_at : (s : Settings) (path : Trail) (question : Question) (at : Option Stored) → IsFurther path.position (branch_at s path question at)
answered_at s path question (Some n) = followed (same_made n.made (made_of question)) path n
answered_at s path question None =
    made_if (nat_lt path.position s.max_branches) path
    (lengthen path (new_node (every_at s (passes_of path) (made_of question)) (made_of question) (slice_get path.given path.position)))
    (lengthened path (new_node (every_at s (passes_of path) (made_of question)) (made_of question) (slice_get path.given path.position)))

pub answer_passes : (s : Settings) (path : Trail) (question : Question) (choice : Choice) (after : Trail) → branch s path question ≡ (Ok choice, after) → after.position ≡ path.position + 1
answer_passes s path question choice after e = subst (IsFurther path.position) e (answered_at s path question (slice_get path.nodes path.position))

came_so : {A : Type 0} (r : Result A FailureKind) (a : A) → came r ≡ Gives a → r ≡ Ok a
came_so (Ok b) a e = let is : b ≡ a = cc e in ap Ok is
came_so (Err kind) a e = absurd (cc e)

-- where the search is reduced, the order is kept
kept_order : (reduce : Bool) (o : Order) (d : Dependence) → reduce ≡ true → Keeps reduce o d → ShowsOrder o d
kept_order true o d is h = h
kept_order false o d is h = absurd (cc is)

-- what is kept for a search is kept for the same search
pub kept_on : (path after : Route) → after.search ≡ path.search → (o : Order) (d new : Dependence) → new ≡ d → Keeps path.search.reduce o d → Keeps after.search.reduce o new
kept_on path after same o d new kept h =
    subst (λ (s : Settings). Keeps s.reduce o new) (sym same) (subst (λ (x : Dependence). Keeps path.search.reduce o x) (sym kept) h)

-- what a refusal says
pub refused_so : {A E P : Type 0} (r : Result A E) → is_err r ≡ true → IfErr r (λ _. P) → P
refused_so (Ok a) is p = absurd (cc is)
refused_so (Err e) is p = p

module _ {D : Type 0} where
  -- a tree that goes the same way
  pub same_way : {A : Type 0} (tree other : Tree (A × Course D)) (path via : Route) (result : Result A Stop) (new : Progress D) (after : Route) → drives tree path ≡ drives other via
      → Comes other via result new after → Comes tree path result new after
  same_way tree other path via (Ok a) new after e come = (come.0, come.1, e ∙ come.2)
  same_way tree other path via (Err (Failure failure)) new after e come = e ∙ come
  same_way tree other path via (Err Memory) new after e come = tt

  -- an operation has passed with its turn
  abbrev pub passed_with : Result (Turn D) Stop → Result (Passed D) Stop
  passed_with (Ok turn) = Ok (passed.Turn turn)
  passed_with (Err stop) = Err stop

  pub turned_comes : (tree : Tree (Turn D × Course D)) (path : Route) (result : Result (Turn D) Stop) (new : Progress D) (after : Route)
      → Comes tree path result new after → Comes (tree >>= turned) path (passed_with result) new after
  turned_comes tree path (Ok turn) new after come = (come.0, come.1, drive_then path.search (marking path.search.bound) tree turned (trail path) (trail after) (turn, come.0) come.2)
  turned_comes tree path (Err (Failure failure)) new after come = drive_fails path.search (marking path.search.bound) tree turned (trail path) (trail after) failure.kind come
  turned_comes tree path (Err Memory) new after come = tt

  -- ---- one schedule

  -- the places are those of the course
  places_named : (old : Progress D) (path : Route) (named : List (Option Use)) (places : List (Option ℕ)) → path.search.reduce ≡ true
      → ((points : Points) (left : ℕ) → named ≡ uses (world_of points left old.state.scene)) → ((o : Order) → ShowsOrder o old.dependence → places ≡ unordered o named)
      → (c : Course D) → ShowsCourse c old path → places ≡ unordered_in c
  places_named old path named places reduced us ps c shown =
      ps c.order (kept_order path.search.reduce c.order old.dependence reduced shown.order) ∙ ap (unordered c.order) (us c.world.points old.state.steps_left ∙ ap (λ w. uses w) (sym shown.world.rest))

  -- the marks of those places are the schedule's
  pub marked_at : (old : Progress D) (path mid : Route) (named : List (Option Use)) (places : List (Option ℕ)) → path.search.reduce ≡ true
      → ((points : Points) (left : ℕ) → named ≡ uses (world_of points left old.state.scene)) → ((o : Order) → ShowsOrder o old.dependence → places ≡ unordered o named)
      → Backtracks path places mid → IsMarked old path mid
  marked_at old path mid named places reduced us ps marks c shown =
      subst (λ (p : List (Option ℕ)). Backtracks path p mid) (places_named old path named places reduced us ps c shown) marks

  -- a search that isn't reduced makes none
  pub left_unmarked : (old : Progress D) (path : Route) → path.search.reduce ≡ false → IsMarked old path path
  left_unmarked old path whole c shown =
      ((λ exploring offers. sym (whole_unmarked path.search (trail path) (which_thread exploring offers (unordered_in c)) whole)), ((refl, refl, refl), refl))

  -- what the code notes of the chosen thread's access
  pub noted_by : (old : Progress D) (path after : Route) → after.search ≡ path.search → (t place : ℕ) (result : Result ⊤ Stop) (kept : Dependence) → place ≡ path.position
      → ((c : Course D) → Keeps after.search.reduce c.order old.dependence → c.passed ≡ place → Notes after.search.reduce (used_in t c (use_at old.state.scene.threads t)) result kept)
      → (c : Course D) → ShowsCourse c old path → Notes after.search.reduce (used_in t c (use_at c.world.threads t)) result kept
  noted_by old path after same t place result kept at notes c shown =
      subst (λ (w : World D). Notes after.search.reduce (used_in t c (use_at w.threads t)) result kept) (sym shown.world.rest)
      (notes c (kept_on path after same c.order old.dependence old.dependence refl shown.order) (shown.place ∙ sym at))

  -- what a schedule asks by the code, when it has made its marks
  pub record IsSchedule (old : Progress D) (offered : Offers) (path mid : Route) : Type 0 where
    pub offered_is : (points : Points) (left : ℕ) → offered ≡ offers (world_of points left old.state.scene)
    pub marks : IsMarked old path mid
    pub same : IsSame path mid

  module _ (old : Progress D) (offered : Offers) (path mid : Route) (s : IsSchedule old offered path mid) where
    -- the question as the course asks it
    abbrev pub asks_of : Course D → Question
    asks_of c = which_thread (is_on mid.exploring) offered (unordered_in c)

    pub marks_of : (c : Course D) → ShowsCourse c old path → trail mid ≡ backtrack path.search (marking path.search.bound) (trail path) (asks_of c)
    marks_of c shown = (s.marks c shown).0 (is_on mid.exploring) offered

    -- the schedule as the code asks it
    pub scheduled : (c : Course D) → ShowsCourse c old path → drives (passes c) path ≡ drives (Asks (asks_of c) (chooses c)) path
    scheduled c shown =
        ap (λ (b : Bool). drives (Asks (which_thread b (offers c.world) (unordered_in c)) (chooses c)) path) (ap is_on (shown.exploring ∙ sym s.same.1))
        ∙ ap (λ (o : Offers). drives (Asks (which_thread (is_on mid.exploring) o (unordered_in c)) (chooses c)) path) (ap (λ w. offers w) shown.world.rest ∙ sym (s.offered_is c.world.points old.state.steps_left))

    pub schedule_refused : (after : Route) (stop : Stop) → ((places : List (Option ℕ)) → Decides Thread mid (which_thread (is_on mid.exploring) offered places) (Err stop) after) → Along passes old path (Err stop) old after
    schedule_refused after (Failure failure) says c shown =
        scheduled c shown ∙ refused (asks_of c) (chooses c) path mid (marks_of c shown) s.same.0.0 failure.kind (says (unordered_in c)).0
        ∙ ap (λ (p : Route). (Err failure.kind, trail p)) (sym (says (unordered_in c)).1)
    schedule_refused after Memory says c shown = tt

    module _ (after : Route) (same : IsSame mid after) where
      -- the path answers whatever isn't ordered
      abbrev pub Chooses : Option ℕ → Type 0
      Chooses thread = (places : List (Option ℕ)) → Decides Thread mid (which_thread (is_on mid.exploring) offered places) (Ok thread) after

      chosen_on : (thread : Option ℕ) → Chooses thread → (c : Course D) → ShowsCourse c old path → drives (passes c) path ≡ drives (chooses c (Thread thread)) after
      chosen_on thread says c shown = scheduled c shown ∙ asked (asks_of c) (chooses c) path mid (marks_of c shown) s.same.0.0 after (Thread thread) same.0.0 (says (unordered_in c))

      -- the path has passed one node more
      one_further : (thread : Option ℕ) → Chooses thread → (c : Course D) → ShowsCourse c old path → after.position ≡ path.position + 1
      one_further thread says c shown =
          answer_passes mid.search (trail mid) (asks_of c) (Thread thread) (trail after) (says (unordered_in c)) ∙ ap (λ (t : Trail). t.position + 1) (marks_of c shown)

      -- and explores as before
      as_before : (c : Course D) → ShowsCourse c old path → c.exploring ≡ after.exploring
      as_before c shown = shown.exploring ∙ sym (same.1 ∙ s.same.1)

      -- the access can't be noted
      pub access_refused : (thread : ℕ) → Chooses (Some thread) → (stop : Stop) (new : Progress D)
          → ((c : Course D) → ShowsCourse c old path → Notes after.search.reduce (used_in thread c (use_at c.world.threads thread)) (Err stop) new.dependence) → Along passes old path (Err stop) new after
      access_refused thread says stop new notes c shown = by stop (used_in thread c (use_at c.world.threads thread)) (notes c shown) (chosen_on (Some thread) says c shown)
        where
          by : (stop : Stop) (r : Result Order FailureKind) → Notes after.search.reduce r (Err stop) new.dependence → drives (passes c) path ≡ drives (came (with_order c r) >>= goes_by thread) after
              → Comes (passes c) path (Err stop) new after
          by stop (Ok order) h e = absurd (cc h.0)
          by Memory (Err kind) h e = tt
          by (Failure failure) (Err kind) h e =
              let is : kind ≡ failure.kind = cc h in
              e ∙ ap (λ k. (Err k, trail after)) is

      -- it is noted
      noted : (thread : ℕ) (c : Course D) (r : Result Order FailureKind) (run : Progress D) → Notes after.search.reduce r (Ok tt) run.dependence → Shows c.world run.state → suc c.passed ≡ after.position → c.exploring ≡ after.exploring
          → (v : Course D) × ((came (with_order c r) >>= goes_by thread) ≡ takes_turn thread v) × ShowsCourse v run after
      noted thread c (Ok order) run h w place on = (one_passed (record c { order = order }), refl, record { world = w; order = h.1; place = place; exploring = on })
      noted thread c (Err kind) run h w place on = absurd (cc h)

      -- the course on which the thread goes on
      pub chosen_course : (thread : ℕ) → Chooses (Some thread) → (run : Progress D)
          → ((c : Course D) → ShowsCourse c old path → Notes after.search.reduce (used_in thread c (use_at c.world.threads thread)) (Ok tt) run.dependence) → run.state ≡ old.state
          → (c : Course D) → ShowsCourse c old path → (v : Course D) × ShowsCourse v run after × (drives (passes c) path ≡ drives (takes_turn thread v) after)
      chosen_course thread says run notes state c shown =
          let n = noted thread c (used_in thread c (use_at c.world.threads thread)) run (notes c shown) (subst (λ r. Shows c.world r) (sym state) shown.world)
          (ap suc shown.place ∙ sym (one_further (Some thread) says c shown ∙ plus_one path.position)) (as_before c shown) in
          (n.0, n.2, chosen_on (Some thread) says c shown ∙ ap (λ (t : Tree (Passed D × Course D)). drives t after) n.1)

      -- and it goes on
      pub thread_chosen : (thread : ℕ) → Chooses (Some thread) → (run : Progress D)
          → ((c : Course D) → ShowsCourse c old path → Notes after.search.reduce (used_in thread c (use_at c.world.threads thread)) (Ok tt) run.dependence) → run.state ≡ old.state
          → (result : Result (Passed D) Stop) (new : Progress D) (end : Route) → Along (takes_turn thread) run after result new end → Along passes old path result new end
      thread_chosen thread says run notes state result new end along c shown =
          let v = chosen_course thread says run notes state c shown in
          same_way (passes c) (takes_turn thread v.0) path after result new end v.2 (along v.0 v.1)

      pub nobody_chosen : Chooses None → (result : Result (Turn D) Stop) (new : Progress D) (end : Route)
          → Along closes old after result new end → Along passes old path (passed_with result) new end
      nobody_chosen says result new end along c shown =
          same_way (passes c) (closes (one_passed c) >>= turned) path after (passed_with result) new end (chosen_on None says c shown)
          (turned_comes (closes (one_passed c)) after result new end
          (along (one_passed c) (record { world = shown.world; order = kept_on path after (same.0.0 ∙ s.same.0.0) c.order old.dependence old.dependence refl shown.order; place = ap suc shown.place ∙ sym (one_further None says c shown ∙ plus_one path.position); exploring = as_before c shown })))

  -- ---- schedules up to a turn

  -- the first of them, and how it goes on
  pub first_of : (more : ℕ) (c : Course D) → (again : Course D → Tree (Turn D × Course D)) × (schedule more c ≡ (passes c >>= further again))
  unfolding schedule
  first_of zero c = (λ v. Fails Misuse, refl)
  first_of (suc more) c = (schedule more, refl)

  -- at another branch point they go on from there
  pub goes_on_by : (more left : ℕ) → more ≡ suc left → (c after : Course D) (path via : Route) → drives (passes c) path ≡ (Ok (passed.AtBranch, after), trail via)
      → via.search ≡ path.search → drives (schedule more c) path ≡ drives (schedule left after) via
  unfolding schedule
  goes_on_by more left e c after path via come same =
      ap (λ (k : ℕ). drives (schedule k c) path) e
      ∙ drive_then path.search (marking path.search.bound) (passes c) (further (schedule left)) (trail path) (trail via) (passed.AtBranch, after) come
      ∙ ap (λ (s : Settings). drive s (marking s.bound) (schedule left after) (trail via)) (sym same)

  module _ (old mid : Progress D) (path via : Route) where
    pub pass_stops : (more : ℕ) (stop : Stop) → Along passes old path (Err stop) mid via → Along (schedule more) old path (Err stop) mid via
    pass_stops more (Failure failure) along c shown =
        let first = first_of more c in
        ap (λ (t : Tree (Turn D × Course D)). drives t path) first.1
        ∙ drive_fails path.search (marking path.search.bound) (passes c) (further first.0) (trail path) (trail via) failure.kind (along c shown)
    pass_stops more Memory along c shown = tt

    pub turn_passed : (more : ℕ) (turn : Turn D) → Along passes old path (Ok (passed.Turn turn)) mid via → Along (schedule more) old path (Ok turn) mid via
    turn_passed more turn along c shown =
        let first = first_of more c in
        let come = along c shown in (
          come.0,
          come.1,
          ap (λ (t : Tree (Turn D × Course D)). drives t path) first.1
              ∙ drive_then path.search (marking path.search.bound) (passes c) (further first.0) (trail path) (trail via) (passed.Turn turn, come.0) come.2,
        )

    -- one branch point more than there may be
    pub too_many : (more : ℕ) → more ≡ 0 → Along passes old path (Ok passed.AtBranch) mid via
        → Along (schedule more) old path (Err (Failure (record { kind = Misuse; location = None }))) mid via
    unfolding schedule
    too_many more none along c shown =
        let come = along c shown in
        ap (λ (k : ℕ). drives (schedule k c) path) none
        ∙ drive_then path.search (marking path.search.bound) (passes c) (further (λ v. Fails Misuse)) (trail path) (trail via) (passed.AtBranch, come.0) come.2

  -- ---- what a chosen thread has pending

  -- it gives something without a question, or fails
  pub takes_at_once : (t : ℕ) (old new : Progress D) (path : Route) (result : Result (Passed D) Stop)
      → ((exploring : Bool) (w : World D) → Shows w old.state → world_comes (resumes exploring t w) result new.state) → new.dependence ≡ old.dependence → Along (takes_turn t) old path result new path
  takes_at_once t old new path (Ok passed) does kept c shown =
      let come = does (is_on c.exploring) c.world shown.world in (
        record c { world = come.0 },
        record { world = come.1; order = kept_on path path refl c.order old.dependence new.dependence kept shown.order; place = shown.place; exploring = shown.exploring },
        ap (λ (tree : Tree (Passed D × World D)). drives (carried c tree) path) come.2,
      )
  takes_at_once t old new path (Err (Failure failure)) does kept c shown =
      ap (λ (tree : Tree (Passed D × World D)). drives (carried c tree) path) (does (is_on c.exploring) c.world shown.world)
  takes_at_once t old new path (Err Memory) does kept c shown = tt

  -- it reads: the path is asked which store
  module _ (t : ℕ) (load : Loading) (old mid : Progress D) (path via : Route)
      (does : (exploring : Bool) (w : World D) → Shows w old.state → Resumes exploring (resumes exploring t w) (Ok (resumed.Load load)) mid.state) (kept : mid.dependence ≡ old.dependence) where
    abbrev pub reading : Course D → World D → Choice → Tree (Passed D × Course D)
    reading c w choice = carried (one_passed c) (read_by load w choice >>= world_turned)

    pub read_asks : (c : Course D) (shown : ShowsCourse c old path) → drives (takes_turn t c) path ≡ drives (Asks (which_store (is_on path.exploring) load.readable) (reading c (does (is_on c.exploring) c.world shown.world).0)) path
    read_asks c shown =
        ap (λ (tree : Tree (Passed D × World D)). drives (carried c tree) path) (does (is_on c.exploring) c.world shown.world).3
        ∙ ap (λ e. drives (Asks (which_store (is_on e) load.readable) (reading c (does (is_on c.exploring) c.world shown.world).0)) path) shown.exploring

    abbrev pub unmarked_load : trail path ≡ backtrack path.search (marking path.search.bound) (trail path) (which_store (is_on path.exploring) load.readable)
    unmarked_load = sym (unmarked path.search (trail path) (which_store (is_on path.exploring) load.readable) (no_pairs (is_on path.exploring) (slots load.readable)))

    pub load_stops : (stop : Stop) → Decides Load path (which_store (is_on path.exploring) load.readable) (Err stop) via → Along (takes_turn t) old path (Err stop) mid via
    load_stops (Failure failure) says c shown =
        read_asks c shown ∙ refused (which_store (is_on path.exploring) load.readable) (reading c (does (is_on c.exploring) c.world shown.world).0) path path unmarked_load refl failure.kind says.0
        ∙ ap (λ (p : Route). (Err failure.kind, trail p)) (sym says.1)
    load_stops Memory says c shown = tt

    -- and the access goes on by the slot
    pub slot_read : (slot : ℕ) → Decides Load path (which_store (is_on path.exploring) load.readable) (Ok slot) via → IsSame path via → slice_get load.readable slot ≡ Some true
        → (result : Result (Turn D) Stop) (new : Progress D) → new.dependence ≡ mid.dependence
        → ((w : World D) → Shows w mid.state → KeepsAt w.points (accessed load.access) slot → world_comes (read_by load w (Load slot)) result new.state)
        → Along (takes_turn t) old path (passed_with result) new via
    slot_read slot says same readable result new unchanged reads c shown =
        let come = does (is_on c.exploring) c.world shown.world in
        by result (reads come.0 come.1 (come.2 slot readable))
        (read_asks c shown ∙ asked (which_store (is_on path.exploring) load.readable) (reading c come.0) path path unmarked_load refl via (Load slot) same.0.0 says)
      where
        by : (result : Result (Turn D) Stop) → world_comes (read_by load (does (is_on c.exploring) c.world shown.world).0 (Load slot)) result new.state
            → drives (takes_turn t c) path ≡ drives (reading c (does (is_on c.exploring) c.world shown.world).0 (Load slot)) via → Comes (takes_turn t c) path (passed_with result) new via
        by (Ok turn) h e = (
          record (one_passed c) { world = h.0 },
          record {
            world = h.1;
            order = kept_on path via same.0.0 c.order old.dependence new.dependence (unchanged ∙ kept) shown.order;
            place = ap suc shown.place ∙ sym (answer_passes path.search (trail path) (which_store (is_on path.exploring) load.readable) (Load slot) (trail via) says ∙ plus_one path.position);
            exploring = shown.exploring ∙ sym same.1;
          },
          e ∙ ap (λ (tree : Tree (Turn D × World D)). drives (carried (one_passed c) (tree >>= world_turned)) via) h.2,
        )
        by (Err (Failure failure)) h e = e ∙ ap (λ (tree : Tree (Turn D × World D)). drives (carried (one_passed c) (tree >>= world_turned)) via) h
        by (Err Memory) h e = tt

  -- ---- a wait

  module _ (n : ℕ) (old : Progress D) (path : Route) where
    abbrev pub unmarked_wait : trail path ≡ backtrack path.search (marking path.search.bound) (trail path) (whether_spurious (is_on path.exploring))
    unmarked_wait = sym (unmarked path.search (trail path) (whether_spurious (is_on path.exploring)) refl)

    -- the wait as the path asks it
    pub asked_so : (c : Course D) → ShowsCourse c old path → drives (is_asked n c) path ≡ drives (Asks (whether_spurious (is_on path.exploring)) (waits n c)) path
    asked_so c shown = ap (λ e. drives (Asks (whether_spurious (is_on e)) (waits n c)) path) shown.exploring

    pub wake_stops : (stop : Stop) (mid : Route) → Decides Spurious path (whether_spurious (is_on path.exploring)) (Err stop) mid → Along (is_asked n) old path (Err stop) old mid
    wake_stops (Failure failure) mid says c shown =
        asked_so c shown ∙ refused (whether_spurious (is_on path.exploring)) (waits n c) path path unmarked_wait refl failure.kind says.0 ∙ ap (λ (p : Route). (Err failure.kind, trail p)) (sym says.1)
    wake_stops Memory mid says c shown = tt

    module _ (is_spurious : Bool) (via : Route) (says : Decides Spurious path (whether_spurious (is_on path.exploring)) (Ok is_spurious) via) (same : IsSame path via) where
      pub asked_to_wake : (c : Course D) → ShowsCourse c old path → drives (is_asked n c) path ≡ drives (waits n c (Spurious is_spurious)) via
      asked_to_wake c shown =
          asked_so c shown ∙ asked (whether_spurious (is_on path.exploring)) (waits n c) path path unmarked_wait refl via (Spurious is_spurious) same.0.0 says

      pub wait_stops : (stop : Stop) (mid : Progress D) → ((w : World D) → Shows w old.state → world_comes (enters_wait is_spurious n w) (Err stop) mid.state) → Along (is_asked n) old path (Err stop) mid via
      wait_stops (Failure failure) mid does c shown =
          asked_to_wake c shown
          ∙ ap (λ (tree : Tree (⊤ × World D)). drives (carried (one_passed c) tree >>= (λ after. schedule further_branches after.1)) via) (does c.world shown.world)
      wait_stops Memory mid does c shown = tt

      -- the course that the wait leads to
      pub waiting : (mid : Progress D) → ((w : World D) → Shows w old.state → world_comes (enters_wait is_spurious n w) (Ok tt) mid.state) → mid.dependence ≡ old.dependence
          → (c : Course D) → ShowsCourse c old path → (v : Course D) × ShowsCourse v mid via × (drives (is_asked n c) path ≡ drives (schedule further_branches v) via)
      waiting mid does kept c shown =
          let come = does c.world shown.world in (
            record (one_passed c) { world = come.0 },
            record {
              world = come.1;
              order = kept_on path via same.0.0 c.order old.dependence mid.dependence kept shown.order;
              place = ap suc shown.place ∙ sym (answer_passes path.search (trail path) (whether_spurious (is_on path.exploring)) (Spurious is_spurious) (trail via) says ∙ plus_one path.position);
              exploring = shown.exploring ∙ sym same.1;
            },
            asked_to_wake c shown
                ∙ ap (λ (tree : Tree (⊤ × World D)). drives (carried (one_passed c) tree >>= (λ after. schedule further_branches after.1)) via) come.2,
          )

      pub wait_goes : (mid : Progress D) → ((w : World D) → Shows w old.state → world_comes (enters_wait is_spurious n w) (Ok tt) mid.state) → mid.dependence ≡ old.dependence
          → (result : Result (Turn D) Stop) (new : Progress D) (after : Route) → Along (schedule further_branches) mid via result new after → Along (is_asked n) old path result new after
      wait_goes mid does kept result new after onward c shown =
          let v = waiting mid does kept c shown in
          same_way (is_asked n c) (schedule further_branches v.0) path via result new after v.2 (onward v.0 v.1)

  -- ---- a switch

  module _ (todo : ExploreOp) (run : Progress D) (path after : Route) where
    -- the tree as the switch makes it
    switched_by : (c : Course D) → ShowsCourse c run path → (r : Result Exploring FailureKind) → switched todo path.exploring ≡ r
        → switches todo c ≡ (came r >>= (λ exploring. Gives (turn.Reply c.world.active reply.Done, record c { exploring = exploring })))
    switched_by c shown r e =
        ap (λ (r : Result Exploring FailureKind). came r >>= (λ exploring. Gives (turn.Reply c.world.active reply.Done, record c { exploring = exploring })))
        (ap (switched todo) shown.exploring ∙ e)

    pub switches_so : (active : ℕ) → active ≡ run.state.scene.active → Switches path todo (Ok tt) after → Along (switches todo) run path (Ok (turn.Reply active reply.Done)) run after
    switches_so active is h c shown = by (switched todo path.exploring) refl h
      where
        by : (r : Result Exploring FailureKind) → switched todo path.exploring ≡ r → SwitchesAs r path (Ok tt) after → Comes (switches todo c) path (Ok (turn.Reply active reply.Done)) run after
        by (Err kind) e h = absurd (cc h.0)
        by (Ok exploring) e h = (
          record c { exploring = exploring },
          record {
            world = shown.world;
            order = kept_on path after (ap (λ (r : Route). r.search) h.1) c.order run.dependence run.dependence refl shown.order;
            place = shown.place ∙ sym (ap (λ (r : Route). r.position) h.1);
            exploring = sym (ap (λ (r : Route). r.exploring) h.1);
          },
          ap (λ (t : Tree (Turn D × Course D)). drives t path) (switched_by c shown (Ok exploring) e)
              ∙ ap₂ (λ (t : ℕ) (p : Trail). (Ok (turn.Reply t reply.Done, record c { exploring = exploring }), p))
              (ap (λ (w : World D). w.active) shown.world.rest ∙ sym is) (sym (ap trail h.1)),
        )

    pub switch_fails : (kind : FailureKind) → Switches path todo (Err kind) after → Along (switches todo) run path (Err (Failure (record { kind = kind; location = None }))) run after
    switch_fails kind h c shown = by (switched todo path.exploring) refl h
      where
        by : (r : Result Exploring FailureKind) → switched todo path.exploring ≡ r → SwitchesAs r path (Err kind) after → drives (switches todo c) path ≡ (Err kind, trail after)
        by (Ok exploring) e h = absurd (cc h.0)
        by (Err other) e h =
            let same : other ≡ kind = cc h.0 in
            ap (λ (t : Tree (Turn D × Course D)). drives t path) (switched_by c shown (Err other) e)
            ∙ ap₂ (λ (k : FailureKind) (p : Trail). (Err k, p)) same (sym (ap trail h.1))

  -- ---- the end

  closed_by : (ended : Bool) (c : Course D) (path : Route) → ended ≡ false → drives (check ended Deadlock >>= (λ u. Closes (carried c (ends c.world)))) path ≡ (Err Deadlock, trail path)
  closed_by true c path e = absurd (cc e)
  closed_by false c path e = refl

  left_over : (used_up : Bool) (d : Result (Turn D × Course D) FailureKind × Trail) (path : Trail) → used_up ≡ false → cond used_up d (Err NotDeterministic, path) ≡ (Err NotDeterministic, path)
  left_over true d path e = absurd (cc e)
  left_over false d path e = refl

  ended_by : (ended : Bool) (c : Course D) (path : Route) → ended ≡ true
      → drives (check ended Deadlock >>= (λ u. Closes (carried c (ends c.world)))) path ≡ drives (Closes (carried c (ends c.world))) path
  ended_by true c path e = refl
  ended_by false c path e = absurd (cc e)

  used_up_by : (used_up : Bool) (d : Result (Turn D × Course D) FailureKind × Trail) (path : Trail) → used_up ≡ true → cond used_up d (Err NotDeterministic, path) ≡ d
  used_up_by true d path e = refl
  used_up_by false d path e = absurd (cc e)

  -- whether all threads have ended and whether the path is used up, as the code sees them
  module _ (old : Progress D) (path : Route) (ended used_up : Bool) (all : (c : Course D) → ShowsCourse c old path → all_ended c.world ≡ ended)
      (used : is_used_up (trail path) ≡ used_up) where
    pub stays_open : (kind : FailureKind) → may_end ended used_up ≡ Err kind → Along closes old path (Err (Failure (record { kind = kind; location = None }))) old path
    stays_open kind e c shown = by ended used_up (all c shown) used e
      where
        by : (ended used_up : Bool) → all_ended c.world ≡ ended → is_used_up (trail path) ≡ used_up → may_end ended used_up ≡ Err kind → drives (closes c) path ≡ (Err kind, trail path)
        by false used_up all used e = (let same : Deadlock ≡ kind = cc e in closed_by (all_ended c.world) c path all ∙ ap (λ (k : FailureKind). (Err k, trail path)) same)
        by true false all used e =
            let same : NotDeterministic ≡ kind = cc e in
            ended_by (all_ended c.world) c path all ∙ left_over (is_used_up (trail path)) (drives (carried c (ends c.world)) path) (trail path) used
            ∙ ap (λ (k : FailureKind). (Err k, trail path)) same
        by true true all used e = absurd (cc e)

    pub closes_by : may_end ended used_up ≡ Ok tt → (result : Result (Turn D) Stop) (new : Progress D) → new.dependence ≡ old.dependence
        → ((w : World D) → Shows w old.state → world_comes (ends w) result new.state) → Along closes old path result new path
    closes_by e result new kept does c shown =
        by result (does c.world shown.world) (goes ended used_up (all c shown) used e)
      where
        goes : (ended used_up : Bool) → all_ended c.world ≡ ended → is_used_up (trail path) ≡ used_up → may_end ended used_up ≡ Ok tt → drives (closes c) path ≡ drives (carried c (ends c.world)) path
        goes true true all used e = ended_by (all_ended c.world) c path all ∙ used_up_by (is_used_up (trail path)) (drives (carried c (ends c.world)) path) (trail path) used
        goes true false all used e = absurd (cc e)
        goes false used_up all used e = absurd (cc e)

        by : (result : Result (Turn D) Stop) → world_comes (ends c.world) result new.state → drives (closes c) path ≡ drives (carried c (ends c.world)) path → Comes (closes c) path result new path
        by (Ok turn) h e = (
          record c { world = h.0 },
          record { world = h.1; order = kept_on path path refl c.order old.dependence new.dependence kept shown.order; place = shown.place; exploring = shown.exploring },
          e ∙ ap (λ (tree : Tree (Turn D × World D)). drives (carried c tree) path) h.2,
        )
        by (Err (Failure failure)) h e = e ∙ ap (λ (tree : Tree (Turn D × World D)). drives (carried c tree) path) h
        by (Err Memory) h e = tt

  -- ---- one event

  -- what the code kept of an operation that was begun, and of what it made
  pub started : (is_ordered : Bool) (op : Request D ⊤) (entry : Entry D) (old : Progress D) (state : RunState D) (kept : Dependence) (parent threads objects : ℕ)
      → ((w : World D) → Shows w old.state → world_comes (begins op w) (Ok entry) state) → parent ≡ old.state.scene.active
      → threads ≡ length state.scene.threads - length old.state.scene.threads → objects ≡ length state.scene.objects - length old.state.scene.objects
      → ((o : Order) → Keeps is_ordered o old.dependence → Keeps is_ordered (grown parent threads objects o) kept) → Starts is_ordered op old (Ok entry) (record { state = state; dependence = kept })
  started is_ordered op entry old state kept parent threads objects does ep et eo grows c shown order =
      let come = does c.world shown in
      let more = ap₂ (λ (xs ys : List _). length xs - length ys) (ap (λ (w : World D). w.threads) come.1.rest) (ap (λ (w : World D). w.threads) shown.rest) in
      let others = ap₂ (λ (xs ys : List _). length xs - length ys) (ap (λ (w : World D). w.objects) come.1.rest) (ap (λ (w : World D). w.objects) shown.rest) in (
        come.0,
        come.2,
        come.1,
        subst (λ p. Keeps is_ordered (grown p (length come.0.threads - length c.world.threads) (length come.0.objects - length c.world.objects) c.order) kept) (ep ∙ sym (ap (λ (w : World D). w.active) shown.rest))
            (subst (λ t. Keeps is_ordered (grown parent t (length come.0.objects - length c.world.objects) c.order) kept) (et ∙ sym more)
            (subst (λ o. Keeps is_ordered (grown parent threads o c.order) kept) (eo ∙ sym others) (grows c.order order))),
      )

  -- memory was refused for it
  pub start_refused : (op : Request D ⊤) (answer : Result (Entry D) Stop) (old : RunState D) (state : RunState D) (threads objects : ℕ)
      → is_ok answer ≡ true → ((w : World D) → Shows w old → world_comes (begins op w) answer state)
      → threads ≡ length state.scene.threads - length old.scene.threads → objects ≡ length state.scene.objects - length old.scene.objects
      → 0 < threads + objects → (w : World D) → Shows w old → needs_memory op ≡ true
  start_refused op (Ok entry) old state threads objects is does et eo more w shown =
      let come = does w shown in
      let xs = ap₂ (λ (xs ys : List _). length xs - length ys) (ap (λ (w : World D). w.threads) come.1.rest) (ap (λ (w : World D). w.threads) shown.rest) in
      let ys = ap₂ (λ (xs ys : List _). length xs - length ys) (ap (λ (w : World D). w.objects) come.1.rest) (ap (λ (w : World D). w.objects) shown.rest) in
      made_needs_memory op w entry come.0 (came_so (counted op w) (entry, come.0) come.2) (omega (arith, more, et, eo, xs, ys))
  start_refused op (Err stop) old state threads objects is does et eo more w shown = absurd (cc is)

  -- what a course becomes with what an operation made
  pub started_course : (op : Request D ⊤) (entry : Entry D) (old mid : Progress D) (path : Route) → Starts path.search.reduce op old (Ok entry) mid → (c : Course D) → ShowsCourse c old path
      → (v : Course D) × ShowsCourse v mid path × (drives (submit op c) path ≡ drives (goes_on (entry, v)) path)
  started_course op entry old mid path starts c shown =
      let come = starts c shown.world shown.order in (
        grown_from c.world (record c { world = come.0 }),
        record { world = come.2; order = come.3; place = shown.place; exploring = shown.exploring },
        ap (λ (tree : Tree (Entry D × World D)). drives (carried c tree >>= (λ started. goes_on (started.0, grown_from c.world started.1))) path) come.1,
      )

  module _ (op : Request D ⊤) (old mid : Progress D) (path : Route) where
    pub start_stops : (stop : Stop) → Starts path.search.reduce op old (Err stop) mid → Along (submit op) old path (Err stop) mid path
    start_stops (Failure failure) starts c shown =
        ap (λ (tree : Tree (Entry D × World D)). drives (carried c tree >>= (λ started. goes_on (started.0, grown_from c.world started.1))) path)
        (starts c shown.world shown.order)
    start_stops Memory starts c shown = tt

    pub answered_at_once : (answer : Reply D) (active : ℕ) → active ≡ mid.state.scene.active → Starts path.search.reduce op old (Ok (Answered answer)) mid
        → Along (submit op) old path (Ok (turn.Reply active answer)) mid path
    answered_at_once answer active is starts c shown =
        let v = started_course op (Answered answer) old mid path starts c shown in (
          v.0,
          v.1,
          v.2 ∙ ap (λ (t : ℕ). (Ok (turn.Reply t answer, v.0), trail path)) (ap (λ (w : World D). w.active) v.1.world.rest ∙ sym is),
        )

    pub started_on : (entry : Entry D) (next : Course D → Tree (Turn D × Course D)) → ((v : Course D) → goes_on (entry, v) ≡ next v) → Starts path.search.reduce op old (Ok entry) mid
        → (result : Result (Turn D) Stop) (new : Progress D) (after : Route) → Along next mid path result new after → Along (submit op) old path result new after
    started_on entry next is starts result new after onward c shown =
        let v = started_course op entry old mid path starts c shown in
        same_way (submit op c) (next v.0) path path result new after (v.2 ∙ ap (λ (tree : Tree (Turn D × Course D)). drives tree path) (is v.0)) (onward v.0 v.1)

  -- a run that isn't over does it
  pub submits_by : (old new : ExecutionState D) (op : Request D ⊤) (path after : Route) (answer : Result (Turn D) Stop) → old.over ≡ None → Along (submit op) old.run path answer new.run after
      → new.over ≡ over_after answer → (answer ≡ Err Memory → MayBeRefused op old.run path) → Submits old op path answer new after
  submits_by old new op path after answer going along over growth = subst (λ (o : Option Stop). SubmitsAt o old op path answer new after) (sym going) (along, over, growth)

  pub schedules_by : (old new : ExecutionState D) (path after : Route) (answer : Result (Turn D) Stop) → old.over ≡ None → Along (schedule further_branches) old.run path answer new.run after
      → new.over ≡ over_after answer → (answer ≡ Err Memory → AllNeedMemory itself (schedule further_branches) old.run path) → Schedules old path answer new after
  schedules_by old new path after answer going along over growth =
      subst (λ (o : Option Stop). HappensAt o (schedule further_branches) (AllNeedMemory itself (schedule further_branches)) old path answer new after) (sym going) (along, over, growth)
