-- Where memory is needed on the way through a tree: a path is never shorter after it, and what a part needs, the whole does.
use Rattle.std.proofs.Common.{◌≡◌, ◌≤◌, ◌+◌, List, ℕ, zero, suc, Bool, true, false, [], ◌∷◌, length, Option, Some, None, inl, inr, ap, refl, sym, ◌∙◌, subst, arith, length-append}
use Rattle.std.proofs.lemmas.List.{length-map}
use Rattle.std.specs.Prelude.{Result, Ok, Err, cond, nat_lt, slice_get, ⊤}
use Rattle.loom_views.specs.declared.rt.failure.FailureKind.{FailureKind}
use Rattle.loom_views.specs.declared.rt.failure.FailureKind.TheVariants.{NotDeterministic, TooManyBranches}
use Rattle.loom_objects.specs.declared.choice.Choice.{Choice}
use Rattle.loom_objects.specs.declared.choice.Choice.TheVariants.{Thread, Load, Spurious}
use Rattle.loom_objects.specs.declared.failure.Stop.{Stop}
use Rattle.loom_objects.specs.declared.failure.Stop.TheVariants.{Failure, Memory}
use Rattle.loom_objects.specs.declared.operation.Request.{Request}
use Rattle.loom_objects.specs.declared.operation.Turn.{Turn}
use Rattle.loom_objects.specs.declared.rt.run.Entry.{Entry}
use Rattle.loom_objects.specs.declared.rt.run.Loading.{Loading}
use Rattle.loom_objects.specs.declared.rt.run.Resumed.TheVariants as resumed
use Rattle.loom_objects.specs.declared.rt.run.Passed.{Passed}
use Rattle.loom_objects.specs.declared.rt.run.Passed.TheVariants as passed
use Rattle.loom_objects.specs.declared.rt.schedule.Offers.{Offers}
use Rattle.loom_objects.specs.Tree.Question.{Question, made_of}
use Rattle.loom_objects.specs.Scene.Shown.{Shows, Resumes, Comes as world_comes}
use Rattle.loom_objects.specs.Rules.Steps.{enters_wait, resumes}
use Rattle.loom_objects.specs.Rules.Tables.{needs_memory}
use Rattle.loom_objects.specs.Rules.Uses.{use_at}
use Rattle.loom_objects.specs.Tree.Tree.{Tree, Gives, Fails, Closes, Asks, ◌>>=◌}
use Rattle.loom_objects.specs.World.{World}
use Rattle.loom_engine.specs.Walk.Choices.{pick}
use Rattle.loom_engine.specs.Walk.Path.{Stored}
use Rattle.loom_engine.specs.Trees.Comparing.{same_made}
use Rattle.loom_engine.specs.Trees.Drive.{Trail, Answer, passes_of, new_node, lengthen, branch, branch_at, backtrack, is_used_up, marked, drive, drive_on}
use Rattle.loom_engine.specs.Trees.Marks.{marking}
use Rattle.loom_engine.specs.Trees.Meeting.{Settings, Marking, every_at}
use Rattle.loom_engine.specs.Walk.UnderWay.{mark_with}
use Rattle.loom_engine.proofs.Trees.Binding.{onward, drive_bind, drive_then}
use Rattle.loom_objects.specs.Tree.Asked.{which_thread, whether_spurious}
use Rattle.loom_objects.specs.Tree.Stores.{which_store}
use Rattle.loom_objects.specs.Exploring.{is_on}
use Rattle.loom_engine.specs.Runs.Machine.{passes, chooses, further, further_branches, goes_on, is_asked, schedule, submit, waits}
use Rattle.loom_engine.specs.Runs.Course.{Course, carried, unordered_in, used_in}
use Rattle.loom_objects.specs.Stages.ChosenCopy.{GivesCopy}
use Rattle.loom_engine.specs.Execution.{Along, MayBeRefused, NeedsMemory, AllNeedMemory, Notes, ShowsCourse, Starts, itself, takes_turn}
use Rattle.loom_engine.specs.declared.rt.execution.Progress.{Progress}
use Rattle.loom_engine.proofs.Execution.Executing.{Chooses, IsSchedule, asked, asked_so, asks_of, chosen_course, first_of, goes_on_by, marked_first, marks_of, read_asks, same_way, scheduled, started_course, unmarked_load, unmarked_wait, waiting}
use Rattle.loom_engine.specs.Path.Nodes.{seen}
use Rattle.loom_engine.specs.Path.Route.{Route, IsSame, trail, Decides, Grows, drives}

-- ---- no answer of a path makes it shorter

picked : {B : Type 0} (d : Dec B) (a b : Answer) (n : ℕ) → n ≤ length a.1.nodes → n ≤ length b.1.nodes → n ≤ length (pick d a b).1.nodes
picked (yes x) a b n h g = h
picked (no x) a b n h g = g

made : (path : Trail) (new : Option Stored) → length path.nodes ≤ length (lengthen path new).1.nodes
made path None = omega arith
made path (Some n) = omega (arith, length-append path.nodes (n ∷ []))

chosen_by : (b : Bool) (path : Trail) (answer : Answer) (kind : FailureKind) → length path.nodes ≤ length answer.1.nodes → length path.nodes ≤ length (cond b answer (Err kind, path)).1.nodes
chosen_by true path answer kind h = h
chosen_by false path answer kind h = omega arith

answered_at : (s : Settings) (path : Trail) (question : Question) (at : Option Stored) → length path.nodes ≤ length (branch_at s path question at).1.nodes
answered_at s path question (Some n) = picked (same_made n.made (made_of question)) (Ok n.present, record path { position = path.position + 1 }) (Err NotDeterministic, path) (length path.nodes) (omega arith) (omega arith)
answered_at s path question None =
    chosen_by (nat_lt path.position s.max_branches) path (lengthen path (new_node (every_at s (passes_of path) (made_of question)) (made_of question) (slice_get path.given path.position))) TooManyBranches
    (made path (new_node (every_at s (passes_of path) (made_of question)) (made_of question) (slice_get path.given path.position)))

answered : (s : Settings) (path : Trail) (question : Question) → length path.nodes ≤ length (branch s path question).1.nodes
answered s path question = answered_at s path question (slice_get path.nodes path.position)

-- ---- nor do marks

as_long_with : (marks : ℕ → Choice → Bool) (k : ℕ) (nodes : List Stored) → length (mark_with marks k nodes) ≡ length nodes
as_long_with marks k [] = refl
as_long_with marks k (n ∷ nodes) = ap suc (as_long_with marks (suc k) nodes)

as_long : (reduce : Bool) (marks : ℕ → Choice → Bool) (nodes : List Stored) → length (marked reduce marks nodes) ≡ length nodes
as_long false marks nodes = refl
as_long true marks nodes = as_long_with marks zero nodes

pub marked_as_long : (path mid : Route) (question : Question) → trail mid ≡ backtrack path.search (marking path.search.bound) (trail path) question → length mid.nodes ≡ length path.nodes
marked_as_long path mid question marks =
    sym (length-map mid.nodes seen) ∙ ap (λ (t : Trail). length t.nodes) marks
    ∙ as_long path.search.reduce (marking path.search.bound (passes_of (trail path)) question) (trail path).nodes ∙ length-map path.nodes seen

-- ---- nor does a drive

module _ {A : Type 0} where
  driven_on : (go : Choice → Trail → Result A FailureKind × Trail) (answer : Answer) (n : ℕ) → n ≤ length answer.1.nodes
      → ((choice : Choice) (after : Trail) → length after.nodes ≤ length (go choice after).1.nodes) → n ≤ length (drive_on go answer).1.nodes
  driven_on go (Ok choice, after) n h f = omega (arith, f choice after)
  driven_on go (Err kind, after) n h f = h

  closed_by : (b : Bool) (path : Trail) (d : Result A FailureKind × Trail) → length path.nodes ≤ length d.1.nodes → length path.nodes ≤ length (cond b d (Err NotDeterministic, path)).1.nodes
  closed_by true path d h = h
  closed_by false path d h = omega arith

  pub never_shorter : (s : Settings) (adds : Marking) (tree : Tree A) (path : Trail) → length path.nodes ≤ length (drive s adds tree path).1.nodes
  never_shorter s adds (Gives a) path = omega arith
  never_shorter s adds (Fails kind) path = omega arith
  never_shorter s adds (Closes rest) path = closed_by (is_used_up path) path (drive s adds rest path) (never_shorter s adds rest path)
  never_shorter s adds (Asks question branches) path =
      driven_on (λ choice after. drive s adds (branches choice) after) (branch s (backtrack s adds path question) question) (length path.nodes)
      (omega (arith, answered s (backtrack s adds path question) question, as_long s.reduce (adds (passes_of path) question) path.nodes))
      (λ choice after. never_shorter s adds (branches choice) after)

  -- the answer to the first question makes a node
  pub asks_grow : (question : Question) (branches : Choice → Tree A) (path mid : Route) → trail mid ≡ backtrack path.search (marking path.search.bound) (trail path) question → mid.search ≡ path.search
      → Grows mid (branch mid.search (trail mid) question).1 → Grows path (drives (Asks question branches) path).1
  asks_grow question branches path mid marks same grows =
      let longer = driven_on (λ choice after. drive path.search (marking path.search.bound) (branches choice) after) (branch mid.search (trail mid) question) (suc (length mid.nodes))
      grows (λ choice after. never_shorter path.search (marking path.search.bound) (branches choice) after) in
      let e = ap (λ (d : Result A FailureKind × Trail). length d.1.nodes) (marked_first question branches path mid marks same (branch mid.search (trail mid) question) refl) in
      omega (arith, longer, e, marked_as_long path mid question marks)

module _ {A B : Type 0} (s : Settings) (adds : Marking) where
  onward_grown : (next : A → Tree B) (d : Result A FailureKind × Trail) (n : ℕ) → n ≤ length d.1.nodes → n ≤ length (onward s adds next d).1.nodes
  onward_grown next (Ok a, path) n h = omega (arith, never_shorter s adds (next a) path)
  onward_grown next (Err kind, path) n h = h

  -- what the first tree needs, the two trees need
  pub part_grows : (tree : Tree A) (next : A → Tree B) (path : Trail) (n : ℕ) → n ≤ length (drive s adds tree path).1.nodes
      → n ≤ length (drive s adds (tree >>= next) path).1.nodes
  part_grows tree next path n h =
      subst (λ (d : Result B FailureKind × Trail). n ≤ length d.1.nodes) (sym (drive_bind s adds tree next path))
      (onward_grown next (drive s adds tree path) n h)

-- the path after an answer, or after a part of the way, isn't shorter
pub after_answer : (path mid via : Route) (question : Question) (choice : Choice) → trail mid ≡ backtrack path.search (marking path.search.bound) (trail path) question
    → branch mid.search (trail mid) question ≡ (Ok choice, trail via) → length path.nodes ≤ length via.nodes
after_answer path mid via question choice marks e =
    omega (arith, marked_as_long path mid question marks, answered mid.search (trail mid) question, ap (λ (a : Answer). length a.1.nodes) e, length-map mid.nodes seen, length-map via.nodes seen)

pub after_part : {A : Type 0} (tree : Tree A) (path via : Route) (comes : Result A FailureKind) → drives tree path ≡ (comes, trail via) → length path.nodes ≤ length via.nodes
after_part {A} tree path via comes e =
    omega (arith, never_shorter path.search (marking path.search.bound) tree (trail path), ap (λ (d : Result A FailureKind × Trail). length d.1.nodes) e, length-map path.nodes seen, length-map via.nodes seen)

-- ---- what is needed

-- a refusal, by another type
pub as_refused : {A B : Type 0} (stop : Stop) → ◌≡◌ {A = Result A Stop} (Err stop) (Err Memory) → ◌≡◌ {A = Result B Stop} (Err stop) (Err Memory)
as_refused stop e = let is : stop ≡ Memory = cc in ap Err is

module _ {D : Type 0} where
  -- a tree that goes the same way, from a path that isn't longer
  pub needed_on : {A : Type 0} (by_turn : Turn D → A) (tree other : Tree (A × Course D)) (path via : Route) → drives tree path ≡ drives other via → length path.nodes ≤ length via.nodes
      → NeedsMemory by_turn other via → NeedsMemory by_turn tree path
  needed_on {A} by_turn tree other path via e h (inl grows) = inl (let same = ap (λ (d : Result (A × Course D) FailureKind × Trail). length d.1.nodes) e in omega arith)
  needed_on {A} by_turn tree other path via e h (inr copied) = inr (copied.0, copied.1, copied.2, copied.3, ap (λ (d : Result (A × Course D) FailureKind × Trail). d.0) e ∙ copied.4)

  -- schedules up to a turn need what the first of them does
  pub needed_further : (again : Course D → Tree (Turn D × Course D)) (tree : Tree (Passed D × Course D)) (path : Route) → NeedsMemory passed.Turn tree path → NeedsMemory itself (tree >>= further again) path
  needed_further again tree path (inl grows) = inl (part_grows path.search (marking path.search.bound) tree (further again) (trail path) (suc (length path.nodes)) grows)
  needed_further again tree path (inr copied) = inr (
    copied.0,
    copied.1,
    copied.2,
    copied.3,
    ap (λ (d : Result (Turn D × Course D) FailureKind × Trail). d.0)
        (drive_then path.search (marking path.search.bound) tree (further again) (trail path) (drives tree path).1 _ (ap (λ (c : Result (Passed D × Course D) FailureKind). (c, (drives tree path).1)) copied.4)),
  )

  -- memory is refused for the node that answers the first question
  pub refused_first : {A X B : Type 0} (stands : X → Choice) (by_turn : Turn D → A) (question : Question) (branches : Choice → Tree (A × Course D)) (path mid after : Route) (stop : Stop)
      → trail mid ≡ backtrack path.search (marking path.search.bound) (trail path) question → mid.search ≡ path.search
      → Decides stands mid question (Err stop) after → ◌≡◌ {A = Result B Stop} (Err stop) (Err Memory) → NeedsMemory by_turn (Asks question branches) path
  refused_first stands by_turn question branches path mid after (Failure failure) marks same says e = absurd (cc)
  refused_first stands by_turn question branches path mid after Memory marks same says e = inl (asks_grow question branches path mid marks same says.1)

  -- or it is needed after that answer
  pub needed_after : {A : Type 0} (by_turn : Turn D → A) (question : Question) (branches : Choice → Tree (A × Course D)) (path mid via : Route) (choice : Choice)
      → trail mid ≡ backtrack path.search (marking path.search.bound) (trail path) question → mid.search ≡ path.search → via.search ≡ mid.search
      → branch mid.search (trail mid) question ≡ (Ok choice, trail via) → NeedsMemory by_turn (branches choice) via → NeedsMemory by_turn (Asks question branches) path
  needed_after by_turn question branches path mid via choice marks same on e =
      needed_on by_turn (Asks question branches) (branches choice) path via (asked question branches path mid marks same via choice on e) (after_answer path mid via question choice marks e)

  -- ---- one schedule

  module _ (old : Progress D) (offered : Offers) (path mid : Route) (s : IsSchedule old offered path mid) where
    pub thread_refused : {B : Type 0} (after : Route) (stop : Stop) → ((places : List (Option ℕ)) → Decides Thread mid (which_thread (is_on mid.exploring) offered places) (Err stop) after)
        → ◌≡◌ {A = Result B Stop} (Err stop) (Err Memory) → AllNeedMemory passed.Turn passes old path
    thread_refused after stop says e c shown =
        needed_on passed.Turn (passes c) (Asks (asks_of old offered path mid s c) (chooses c)) path path (scheduled old offered path mid s c shown) (omega arith)
        (refused_first Thread passed.Turn (asks_of old offered path mid s c) (chooses c) path mid after stop (marks_of old offered path mid s c shown) s.same.0.0 (says (unordered_in c)) e)

    -- the thread that was chosen needs memory as it goes on
    pub thread_needs : (thread : ℕ) (after : Route) (same : IsSame mid after) → Chooses old offered path mid s after same (Some thread) → (run : Progress D)
        → ((c : Course D) → ShowsCourse c old path → Notes after.search.reduce (used_in thread c (use_at c.world.threads thread)) (Ok tt) run.dependence) → run.state ≡ old.state
        → AllNeedMemory passed.Turn (takes_turn thread) run after → AllNeedMemory passed.Turn passes old path
    thread_needs thread after same says run notes state needs c shown =
        let v = chosen_course old offered path mid s after same thread says run notes state c shown in
        needed_on passed.Turn (passes c) (takes_turn thread v.0) path after v.2
        (after_answer path mid after (asks_of old offered path mid s c) (Thread (Some thread)) (marks_of old offered path mid s c shown) (says (unordered_in c))) (needs v.0 v.1)

  -- memory is refused for the node of a load
  pub load_refused : {B : Type 0} (t : ℕ) (load : Loading) (old mid : Progress D) (path via : Route) (stop : Stop)
      → ((exploring : Bool) (w : World D) → Shows w old.state → Resumes exploring (resumes exploring t w) (Ok (resumed.Load load)) mid.state) → mid.dependence ≡ old.dependence
      → Decides Load path (which_store (is_on path.exploring) load.readable) (Err stop) via → ◌≡◌ {A = Result B Stop} (Err stop) (Err Memory) → AllNeedMemory passed.Turn (takes_turn t) old path
  load_refused t load old mid path via stop does kept says e c shown =
      needed_on passed.Turn (takes_turn t c) (Asks (which_store (is_on path.exploring) load.readable) _) path path (read_asks t load old mid path via does kept c shown) (omega arith)
      (refused_first Load passed.Turn (which_store (is_on path.exploring) load.readable) _ path path via stop (unmarked_load t load old mid path via does kept) refl says e)

  -- a reader is given a copy, for which memory is refused
  pub copy_refused : (t : ℕ) (old : Progress D) (path : Route) → ((exploring : Bool) (w : World D) → Shows w old.state → GivesCopy (resumes exploring t w)) → AllNeedMemory passed.Turn (takes_turn t) old path
  copy_refused t old path gives c shown =
      let copied = gives (is_on c.exploring) c.world shown.world in
      inr (
        copied.0,
        copied.1,
        copied.2,
        record c { world = copied.3 },
        ap (λ (tree : Tree (Passed D × World D)). (drives (carried c tree) path).0) copied.4,
      )

  -- ---- schedules up to a turn

  pub pass_needs : (old : Progress D) (path : Route) (more : ℕ) → AllNeedMemory passed.Turn passes old path → AllNeedMemory itself (schedule more) old path
  pass_needs old path more needs c shown =
      let first = first_of more c in
      needed_on itself (schedule more c) (passes c >>= further first.0) path path (ap (λ (t : Tree (Turn D × Course D)). drives t path) first.1) (omega arith)
      (needed_further first.0 (passes c) path (needs c shown))

  -- when so many more branch points may come: the schedules from here on end as all do, and need what all need
  pub record IsLeft (more : ℕ) (old : Progress D) (path : Route) (left : ℕ) (run : Progress D) (here : Route) : Type 0 where
    pub reaches : (c : Course D) → ShowsCourse c old path → (v : Course D) × ShowsCourse v run here × (drives (schedule more c) path ≡ drives (schedule left v) here)
        × (length path.nodes ≤ length here.nodes)
    pub same : IsSame path here
    pub steps : run.state.steps_left ≡ old.state.steps_left

  module _ (more : ℕ) (old : Progress D) (path : Route) where
    pub left_start : IsLeft more old path more old path
    left_start = record { reaches = λ c shown. (c, shown, refl, omega arith); same = ((refl, refl, refl), refl); steps = refl }

    module _ (left : ℕ) (run : Progress D) (here : Route) (is : IsLeft more old path left run here) where
      -- one branch point more was passed
      pub left_further : (fewer : ℕ) (mid : Progress D) (via : Route) → left ≡ suc fewer → Along passes run here (Ok passed.AtBranch) mid via → IsSame here via
          → mid.state.steps_left ≡ run.state.steps_left → IsLeft more old path fewer mid via
      left_further fewer mid via e along same steps =
          record { reaches = reaches; same = joined; steps = steps ∙ is.steps }
        where
          reaches : (c : Course D) → ShowsCourse c old path
              → (v : Course D) × ShowsCourse v mid via × (drives (schedule more c) path ≡ drives (schedule fewer v) via) × (length path.nodes ≤ length via.nodes)
          reaches c shown =
              let v = is.reaches c shown in
              let come = along v.0 v.1 in (
                come.0,
                come.1,
                v.2 ∙ goes_on_by left fewer e v.0 come.0 here via come.2 same.0.0,
                omega (arith, v.3, after_part (passes v.0) here via (Ok (passed.AtBranch, come.0)) come.2),
              )

          joined : IsSame path via
          joined = ((same.0.0 ∙ is.same.0.0, same.0.1 ∙ is.same.0.1, same.0.2 ∙ is.same.0.2), same.1 ∙ is.same.1)

      -- they come to what is left
      pub left_comes : (result : Result (Turn D) Stop) (new : Progress D) (after : Route) → Along (schedule left) run here result new after → Along (schedule more) old path result new after
      left_comes result new after comes c shown =
          let v = is.reaches c shown in
          same_way (schedule more c) (schedule left v.0) path here result new after v.2 (comes v.0 v.1)

      pub left_needs : AllNeedMemory itself (schedule left) run here → AllNeedMemory itself (schedule more) old path
      left_needs needs c shown =
          let v = is.reaches c shown in
          needed_on itself (schedule more c) (schedule left v.0) path here v.2 v.3 (needs v.0 v.1)

  -- ---- a wait, and an operation

  -- memory is refused for the node of a spurious wake-up
  pub wake_refused : {B : Type 0} (n : ℕ) (old : Progress D) (path mid : Route) (stop : Stop) → Decides Spurious path (whether_spurious (is_on path.exploring)) (Err stop) mid → ◌≡◌ {A = Result B Stop} (Err stop) (Err Memory)
      → AllNeedMemory itself (is_asked n) old path
  wake_refused n old path mid stop says e c shown =
      needed_on itself (is_asked n c) (Asks (whether_spurious (is_on path.exploring)) (waits n c)) path path (asked_so n old path c shown) (omega arith)
      (refused_first Spurious itself (whether_spurious (is_on path.exploring)) (waits n c) path path mid stop (unmarked_wait n old path) refl says e)

  pub wait_needs : (n : ℕ) (is_spurious : Bool) (old mid : Progress D) (path via : Route) → (says : Decides Spurious path (whether_spurious (is_on path.exploring)) (Ok is_spurious) via) → (same : IsSame path via)
      → ((w : World D) → Shows w old.state → world_comes (enters_wait is_spurious n w) (Ok tt) mid.state) → mid.dependence ≡ old.dependence
      → AllNeedMemory itself (schedule further_branches) mid via → AllNeedMemory itself (is_asked n) old path
  wait_needs n is_spurious old mid path via says same does kept needs c shown =
      let v = waiting n old path is_spurious via says same mid does kept c shown in
      needed_on itself (is_asked n c) (schedule further_branches v.0) path via v.2
      (after_answer path path via (whether_spurious (is_on path.exploring)) (Spurious is_spurious) (unmarked_wait n old path) says) (needs v.0 v.1)

  pub event_needs : (op : Request D ⊤) (entry : Entry D) (next : Course D → Tree (Turn D × Course D)) (old mid : Progress D) (path : Route) → ((v : Course D) → goes_on (entry, v) ≡ next v)
      → Starts path.search.reduce op old (Ok entry) mid → AllNeedMemory itself next mid path → AllNeedMemory itself (submit op) old path
  event_needs op entry next old mid path is starts needs c shown =
      let v = started_course op entry old mid path starts c shown in
      needed_on itself (submit op c) (next v.0) path path (v.2 ∙ ap (λ (t : Tree (Turn D × Course D)). drives t path) (is v.0)) (omega arith) (needs v.0 v.1)

  -- memory is refused as the operation begins
  pub begin_refused : (op : Request D ⊤) (old : Progress D) (path : Route) → ((w : World D) → Shows w old.state → needs_memory op ≡ true) → MayBeRefused op old path
  begin_refused op old path needs = by (needs_memory op) refl
    where
      by : (b : Bool) → needs_memory op ≡ b → MayBeRefused op old path
      by true e = inl e
      by false e = inr (λ c shown. absurd (cc (needs c.world shown.world, e)))
