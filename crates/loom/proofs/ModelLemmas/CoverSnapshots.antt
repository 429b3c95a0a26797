-- A run that notes states, and goes on from where an earlier one stood; and what is kept of runs on their way.
use Rattle.std.proofs.Common.{◌≡◌, ◌≤◌, ◌<◌, ◌⊎◌, ℕ, arith, Bool, List, [], ◌∷◌, ◌++◌, length, map, take, Some, None, ap, sym, ◌∙◌, subst, inl, inr, suc, true, false, Result, Ok, Err, refl}
use Rattle.std.proofs.lemmas.List.Elements.{All-cons, All-nil, All-push, All-take}
use Rattle.std.proofs.lemmas.List.{length-map, length-take-le}
use Rattle.std.specs.Prelude.{All, slice_index_or, IfOk, slice_get, ⊤}
use Rattle.loom_objects.specs.Dependence.Shown.{Keeps as KeepsOrder}
use Rattle.loom_objects.specs.Operation.Labelled.{Op}
use Rattle.loom_objects.specs.Operation.Plain.{plain}
use Rattle.loom_objects.specs.Scene.Shown.{Shows}
use Rattle.loom_objects.specs.Tree.Question.{Made}
use Rattle.loom_objects.specs.declared.choice.Choice.{Choice}
use Rattle.loom_objects.specs.declared.failure.Failure.{Failure}
use Rattle.loom_objects.specs.declared.failure.Stop.TheVariants.{Failure as Because, Memory}
use Rattle.loom_objects.specs.declared.failure.Stop.{Stop}
use Rattle.loom_objects.specs.declared.operation.Request.{Request}
use Rattle.loom_objects.specs.declared.operation.Turn.TheVariants as turn
use Rattle.loom_objects.specs.declared.operation.Turn.{Turn}
use Rattle.loom_engine.specs.Begun.{Begins, begins_at}
use Rattle.loom_engine.specs.Covering.Kept.{Noted}
use Rattle.loom_engine.specs.Covering.UnderWay as under
use Rattle.loom_engine.specs.Covering.UnderWay.{StoodAt}
use Rattle.loom_engine.specs.Execution.{ExecutionState, ShowsCourse, Schedules}
use Rattle.loom_engine.specs.Path.Nodes.{seen}
use Rattle.loom_engine.specs.Path.Route.{Route, stored, trail}
use Rattle.loom_engine.specs.Path.Steps.{Steps}
use Rattle.loom_engine.specs.Path.Tallies.{Tallies}
use Rattle.loom_engine.specs.Runs.Body.{Meaning}
use Rattle.loom_engine.specs.Runs.Course.{Course}
use Rattle.loom_engine.specs.Runs.Machine.{further_branches, schedule}
use Rattle.loom_engine.specs.Snapshots.{Fits, IsKeptOf, KeepsOne, GoesOn}
use Rattle.loom_engine.specs.Trees.Drive.{pass_of, Trail, at_start}
use Rattle.loom_engine.specs.Trees.Marks.{marking}
use Rattle.loom_engine.specs.Trees.Meeting.{Settings, whole_search}
use Rattle.loom_engine.specs.Trees.Retracing.{BeginsWith, standing_at}
use Rattle.loom_engine.specs.Walk.Path.{Stored, step}
use Rattle.loom_engine.specs.declared.rt.execution.Begun.{Begun}
use Rattle.loom_engine.specs.declared.rt.path.node.Node.{Node}
use Rattle.loom_engine.specs.declared.rt.snapshots.Snapshot.{Snapshot}
use Rattle.loom_engine.proofs.Covering.UnderWay as way
use Rattle.loom_engine.proofs.Snapshots.{all_at}
use Rattle.loom_engine.proofs.Trees.Retracing.{begins_long, begins_on, begins_stepped, begins_taken, passes_begin, stepped_long}
use Rattle.loom.proofs.ModelLemmas.Covering.{begun_along, by_whole, scheduled_along}
use Rattle.loom.specs.Model.Cover.{AreNoted, IsAtBranch, IsEndBy, IsEndOf, IsHanding, Noting}
use Rattle.loom.specs.Model.CoverSnapshots.{AreKept, AreKeptAfter, AreKeptBy, AreKeptIn, AreLeft, AreLeftAfter, IsKept, IsKeptBy, MayKeepOne}
use Rattle.loom.specs.declared.model.cover.run.Ending.TheVariants.{Ended, Met, Failed}
use Rattle.loom.specs.declared.model.cover.run.Ending.{Ending}
use Rattle.loom.specs.declared.model.cover.run.Halt.TheVariants as halt
use Rattle.loom.specs.declared.model.cover.run.Halt.{Halt}

-- ---- what is kept, along later paths, and one more of them

module _ {D S : Type 0} (next : Meaning D S) (room : ℕ) (explores : Bool) (max_threads max_steps : ℕ) (body : S) where
  -- the path's nodes are there later on
  pub kept_later : (nodes later : List Node) (list : List (Snapshot D S)) → BeginsWith (stored nodes) (stored later) → AreKept next room explores max_threads max_steps body nodes list → AreKept next room explores max_threads max_steps body later list
  kept_later nodes later list b h k d l = let z = h k d l in (z.0, begins_on z.0 (stored nodes) (stored later) z.1 b, z.2)

  -- those that are before the last node
  pub left_kept : (nodes : List Node) (list more : List (Snapshot D S)) (count : ℕ) → more ≡ take count list → All (λ (kept : Snapshot D S). kept.standing.position < length nodes) more
      → AreLeft next room explores max_threads max_steps body nodes list → AreKept next room explores max_threads max_steps body nodes more
  left_kept nodes list more count is before h k d l =
      subst (λ (xs : List (Snapshot D S)). All (λ (kept : Snapshot D S). kept.standing.position < length nodes → IsKept next room explores max_threads max_steps body nodes kept) xs) (sym is)
      (All-take (λ (kept : Snapshot D S). kept.standing.position < length nodes → IsKept next room explores max_threads max_steps body nodes kept) count list h) k d l (before k d l)

  -- fewer of them
  pub kept_fewer : (nodes : List Node) (list more : List (Snapshot D S)) (count : ℕ) → more ≡ take count list → AreKept next room explores max_threads max_steps body nodes list → AreKept next room explores max_threads max_steps body nodes more
  kept_fewer nodes list more count is h = subst (λ (xs : List (Snapshot D S)). AreKept next room explores max_threads max_steps body nodes xs) (sym is) (All-take (IsKept next room explores max_threads max_steps body nodes) count list h)

  pub kept_left : (nodes : List Node) (list : List (Snapshot D S)) → AreKept next room explores max_threads max_steps body nodes list → AreLeft next room explores max_threads max_steps body nodes list
  kept_left nodes list h k d l m = h k d l

  pub none_left : (nodes : List Node) (list : List (Snapshot D S)) → list ≡ [] → AreLeft next room explores max_threads max_steps body nodes list
  none_left nodes list e k d l = absurd (omega (arith, l, ap (λ (xs : List (Snapshot D S)). length xs) e))

  -- the path steps to the next run
  pub left_stepped : (nodes later : List Node) (list : List (Snapshot D S)) → step (stored nodes) ≡ Some (stored later) → AreLeft next room explores max_threads max_steps body nodes list → AreLeft next room explores max_threads max_steps body later list
  left_stepped nodes later list e h k d l m =
      let fewer = stepped_long (stored nodes) (stored later) e in
      let a = length-map nodes seen in
      let b = length-map later seen in
      let z = h k d l (omega (arith, m, fewer, a, b)) in
      let size = z.2.passed in
      (z.0, begins_stepped z.0 (stored nodes) (stored later) z.1 e (omega (arith, m, b, size)), z.2)

  -- it does after a run that didn't fail
  pub left_on : (ending : Ending D) (nodes later : List Node) (list : List (Snapshot D S)) (stepped : Bool) → Steps nodes stepped later → stepped ≡ true → ((failure : Failure) → ending ≡ Failed failure → ⊥)
      → AreLeftAfter next room explores max_threads max_steps body ending nodes list → AreLeft next room explores max_threads max_steps body later list
  left_on (Ended value) nodes later list stepped steps is well h = left_stepped nodes later list (subst (λ (x : Bool). Steps nodes x later) is steps) h
  left_on (Met number) nodes later list stepped steps is well h = left_stepped nodes later list (subst (λ (x : Bool). Steps nodes x later) is steps) h
  left_on (Failed failure) nodes later list stepped steps is well h = absurd (well failure refl)

  -- the path fits them
  fits_one : (path : Route) (kept : Snapshot D S) → IsKept next room explores max_threads max_steps body path.nodes kept → Fits path kept
  fits_one path kept z =
      let long = begins_long z.0 (stored path.nodes) z.1 in
      let a = length-map path.nodes seen in
      let size = z.2.passed in
      let passes : map pass_of z.0 ≡ map pass_of (take kept.standing.position (stored path.nodes)) =
      sym (passes_begin z.0 (stored path.nodes) z.1) ∙ ap (λ (i : ℕ). map pass_of (take i (stored path.nodes))) size in (
        omega (arith, long, a, size),
        subst (λ (list : List (Made × Choice)). Tallies kept.standing.position list kept.standing.tally) passes z.2.tally,
      )

  pub kept_fit : (path : Route) (list : List (Snapshot D S)) → AreKept next room explores max_threads max_steps body path.nodes list → All (Fits path) list
  kept_fit path list h k d l = fits_one path (slice_index_or list k d) (h k d l)

  -- one that is kept, along a path that has its nodes
  module _ (path : Route) (front : List Stored) (kept : Snapshot D S) (is : IsKeptBy next room explores max_threads max_steps body front kept) (b : BeginsWith front (stored path.nodes)) (same : path.search.reduce ≡ false) where
    pub shows_there : ShowsCourse is.course kept.execution.run (record path { position = kept.standing.position; exploring = kept.standing.exploring })
    shows_there = record {
      world = is.world;
      order = subst (λ (r : Bool). KeepsOrder r is.course.order kept.execution.run.dependence) (sym same) is.order;
      place = is.place;
      exploring = is.exploring;
    }

    pub within_there : kept.standing.position ≤ length (stored path.nodes)
    within_there = let l = begins_long front (stored path.nodes) b in let size = is.passed in omega (arith, l, size)

  -- a run is kept as it is
  module _ (execution : ExecutionState D) (bodies : List S) (path : Route) (c : Course D) (shown : ShowsCourse c execution.run path) (same : path.search.reduce ≡ false) (going : execution.over ≡ None)
      (within : path.position ≤ length (stored path.nodes)) (stood : StoodAt room (marking None) next explores max_threads max_steps body (take path.position (stored path.nodes)) (suc c.world.steps_left) bodies c) where
    copied : (kept : Snapshot D S) → IsKeptOf execution bodies path kept → IsKept next room explores max_threads max_steps body path.nodes kept
    copied kept z = (
      take path.position (stored path.nodes),
      begins_taken path.position (stored path.nodes),
      record {
        course = c;
        world = subst (λ (x : ExecutionState D). Shows c.world x.run.state) (sym z.same_execution) shown.world;
        order = subst (λ (x : ExecutionState D). KeepsOrder false c.order x.run.dependence) (sym z.same_execution)
            (subst (λ (r : Bool). KeepsOrder r c.order execution.run.dependence) same shown.order);
        place = shown.place ∙ sym z.place;
        exploring = shown.exploring ∙ sym z.exploring;
        going = ap (λ (x : ExecutionState D). x.over) z.same_execution ∙ going;
        passed = length-take-le path.position (stored path.nodes) within ∙ sym z.place;
        tally = subst (λ (k : ℕ). Tallies k (map pass_of (take path.position (stored path.nodes))) kept.standing.tally) (sym z.place) z.tally;
        stood = subst (λ (b : List S). StoodAt room (marking None) next explores max_threads max_steps body (take path.position (stored path.nodes)) (suc c.world.steps_left) b c) (sym z.same_bodies) stood;
      },
    )

    keeps_one : (list more : List (Snapshot D S)) → KeepsOne execution bodies path list more → AreKept next room explores max_threads max_steps body path.nodes list → AreKept next room explores max_threads max_steps body path.nodes more
    keeps_one list more (kept, is, there) h = by there
      where
        by : (more ≡ list ++ kept ∷ []) ⊎ (more ≡ kept ∷ []) → AreKept next room explores max_threads max_steps body path.nodes more
        by (inl e) = subst (λ (xs : List (Snapshot D S)). AreKept next room explores max_threads max_steps body path.nodes xs) (sym e) (All-push (IsKept next room explores max_threads max_steps body path.nodes) list kept h (copied kept is))
        by (inr e) = subst (λ (xs : List (Snapshot D S)). AreKept next room explores max_threads max_steps body path.nodes xs) (sym e) (All-cons (IsKept next room explores max_threads max_steps body path.nodes) kept [] (copied kept is) (All-nil (IsKept next room explores max_threads max_steps body path.nodes)))

    pub kept_with : (list more : List (Snapshot D S)) → MayKeepOne execution bodies path list more → AreKept next room explores max_threads max_steps body path.nodes list → AreKept next room explores max_threads max_steps body path.nodes more
    kept_with list more (inl one) h = keeps_one list more one h
    kept_with list more (inr same) h = subst (λ (xs : List (Snapshot D S)). AreKept next room explores max_threads max_steps body path.nodes xs) (sym same) h

-- ---- a run on its way

module _ {D S : Type 0} (next : Meaning D S) (run : Noting D S) where
  -- an operation was begun
  module _ (bodies : List S) (old new : ExecutionState D) (path after : Route) (op : Op D S) (noted : Noted D S) (going : old.over ≡ None) (same : after.search ≡ path.search) (todo : Request D ⊤)
      (asked : todo ≡ plain op) (h : IsHanding next run bodies old.run path op noted) where
    pub begun_keeps : (come : Begun D) → Begins old todo path (Ok come) new after → (list : List (Snapshot D S)) → AreKeptIn next run path.nodes list → AreKeptIn next run after.nodes list
    begun_keeps come event list kept =
        let z = begun_along next run bodies old new path after op noted going same todo asked h (Ok come) event h.course h.shown in
        kept_later next run.room run.explores run.max_threads run.max_steps run.body path.nodes after.nodes list
        (way.keeps_begun run.room (marking None) next run.explores run.max_threads run.max_steps run.body run.path run.old (trail path) h.course.world.steps_left bodies h.course op h.at (come, z.0) (trail after)
        (by_whole next run path (begins_at (plain op) h.course) (Ok (come, z.0), trail after) h.whole z.2))
        kept

  -- a branch point was passed
  module _ (bodies : List S) (old new : ExecutionState D) (path after : Route) (noted more : Noted D S) (going : old.over ≡ None) (same : after.search ≡ path.search)
      (h : IsAtBranch next run bodies old.run path noted) where
    pub scheduled_keeps : (turn : Turn D) → Schedules old path (Ok turn) new after → (list : List (Snapshot D S)) → AreKeptIn next run path.nodes list → AreKeptIn next run after.nodes list
    scheduled_keeps turn event list kept =
        let z = scheduled_along next run bodies old new path after noted more going same h (Ok turn) event h.course h.shown in
        kept_later next run.room run.explores run.max_threads run.max_steps run.body path.nodes after.nodes list
        (way.keeps_on run.room (marking None) next run.explores run.max_threads run.max_steps run.body run.path run.old (trail path) (suc h.course.world.steps_left) bodies h.course h.at (turn, z.0) (trail after)
        (by_whole next run path (schedule further_branches h.course) (Ok (turn, z.0), trail after) h.whole z.2))
        kept

  -- the run is kept as it is, or isn't
  pub kept_more : (bodies : List S) (execution : ExecutionState D) (path : Route) (noted : Noted D S) (list more : List (Snapshot D S)) → execution.over ≡ None → IsAtBranch next run bodies execution.run path noted
      → MayKeepOne execution bodies path list more → AreKeptIn next run path.nodes list → AreKeptIn next run path.nodes more
  kept_more bodies execution path noted list more going h may kept =
      kept_with next run.room run.explores run.max_threads run.max_steps run.body execution bodies path h.course h.shown (ap (λ (s : Settings). s.reduce) h.whole) going h.at.way.within
      (way.stood_there run.room (marking None) next run.explores run.max_threads run.max_steps run.body run.path run.old (trail path) (suc h.course.world.steps_left) bodies h.course h.at) list more may kept

  -- ---- a run that goes on from where one that is kept stood

  module _ (path after : Route) (list : List (Snapshot D S)) (execution : ExecutionState D) (bodies : List S) (k : ℕ) (kept : Snapshot D S) (starts : at_start run.path ≡ trail path) (whole : path.search ≡ whole_search run.room)
      (at : slice_get list k ≡ Some kept) (all : AreKeptIn next run path.nodes list) (goes : GoesOn kept path execution bodies after) where
    found : IsKept next run.room run.explores run.max_threads run.max_steps run.body path.nodes kept
    found = all_at (IsKept next run.room run.explores run.max_threads run.max_steps run.body path.nodes) list k kept at all

    abbrev of_kept : IsKeptBy next run.room run.explores run.max_threads run.max_steps run.body found.0 kept
    of_kept = found.2

    abbrev here : Route
    here = record path { position = kept.standing.position; exploring = kept.standing.exploring }

    begins : BeginsWith found.0 run.path
    begins = subst (λ (t : Trail). BeginsWith found.0 t.nodes) (sym starts) found.1

    reduces : path.search.reduce ≡ false
    reduces = ap (λ (s : Settings). s.reduce) whole

    there : standing_at (length found.0) (at_start run.path) ≡ trail here
    there = ap (λ (t : Trail). standing_at (length found.0) t) starts ∙ ap (λ (i : ℕ). standing_at i (trail path)) of_kept.passed

    stands : AreNoted next run → IsAtBranch next run kept.bodies kept.execution.run here run.old
    stands are = record {
      course = of_kept.course;
      shown = shows_there next run.room run.explores run.max_threads run.max_steps run.body path found.0 kept of_kept found.1 reduces;
      at = subst (λ (t : Trail). under.AtBranch run.room (marking None) next run.explores run.max_threads run.max_steps run.body run.path run.old t (suc of_kept.course.world.steps_left) kept.bodies of_kept.course) there
          (way.goes_on_there run.room (marking None) next run.explores run.max_threads run.max_steps run.body run.path run.old found.0 (suc of_kept.course.world.steps_left) kept.bodies of_kept.course of_kept.stood begins);
      tables = subst (λ (t : Trail). under.Tables run.room (marking None) next run.explores run.max_threads run.max_steps run.body run.path run.old run.old t) there
          (way.tables_same run.room (marking None) next run.explores run.max_threads run.max_steps run.body run.path run.old run.old run.old (at_start run.path) (standing_at (length found.0) (at_start run.path)) refl (λ b n at. at)
          (way.tables_begin run.room (marking None) next run.explores run.max_threads run.max_steps run.body run.path run.old are));
      whole = whole;
    }

    pub goes_on_with : AreNoted next run → IsAtBranch next run bodies execution.run after run.old
    goes_on_with are =
        subst (λ (x : Route). IsAtBranch next run bodies execution.run x run.old) (sym goes.path)
        (subst (λ (x : ExecutionState D). IsAtBranch next run bodies x.run here run.old) (sym goes.same_execution)
        (subst (λ (b : List S). IsAtBranch next run b kept.execution.run here run.old) (sym goes.same_bodies) (stands are)))

    pub goes_on_open : execution.over ≡ None
    goes_on_open = ap (λ (x : ExecutionState D). x.over) goes.same_execution ∙ of_kept.going

    pub same_nodes : after.nodes ≡ path.nodes
    same_nodes = ap (λ (r : Route). r.nodes) goes.path

  -- ---- its end

  stopped_keeps : (stop : Stop) (ending : Ending D) (path : Route) (list : List (Snapshot D S)) → IsEndOf stop ending → AreKeptAfter next run ending path.nodes list
  stopped_keeps stop (Failed failure) path list is = tt
  stopped_keeps (Because failure) (Ended value) path list is = absurd (cc is)
  stopped_keeps (Because failure) (Met number) path list is = absurd (cc is)
  stopped_keeps Memory (Ended value) path list is = absurd is
  stopped_keeps Memory (Met number) path list is = absurd is

  ended_keeps : (result : Result (Turn D) Halt) (ending : Ending D) (path : Route) (list : List (Snapshot D S)) → IsEndBy result ending → AreKeptBy next run result path.nodes list → AreKeptAfter next run ending path.nodes list
  ended_keeps (Err (halt.Stopped stop)) ending path list is kept = stopped_keeps stop ending path list is
  ended_keeps (Err (halt.Met number)) ending path list is kept = subst (λ (x : Ending D). AreKeptAfter next run x path.nodes list) (sym is) kept
  ended_keeps (Ok (turn.Ended value)) ending path list is kept = subst (λ (x : Ending D). AreKeptAfter next run x path.nodes list) (sym is) kept
  ended_keeps (Ok (turn.Reply thread answer)) ending path list is kept = absurd is
  ended_keeps (Ok (turn.Start thread)) ending path list is kept = absurd is

  pub end_keeps : {E : Type 0} (result : Result (Turn D) Halt) (ended : Result (Ending D) E) (path : Route) (list : List (Snapshot D S)) → IfOk ended (IsEndBy result) → AreKeptBy next run result path.nodes list
      → IfOk ended (λ ending. AreKeptAfter next run ending path.nodes list)
  end_keeps result (Ok ending) path list is kept = ended_keeps result ending path list is kept
  end_keeps result (Err refused) path list is kept = tt

  pub stop_keeps : {E : Type 0} (stop : Stop) (ended : Result (Ending D) E) (path : Route) (list : List (Snapshot D S)) → IfOk ended (IsEndOf stop) → IfOk ended (λ ending. AreKeptAfter next run ending path.nodes list)
  stop_keeps stop (Ok ending) path list is = stopped_keeps stop ending path list is
  stop_keeps stop (Err refused) path list is = tt

  -- what is kept at a run's end may be gone on with later
  pub ends_left : {E : Type 0} (ended : Result (Ending D) E) (path : Route) (list : List (Snapshot D S)) → IfOk ended (λ ending. AreKeptAfter next run ending path.nodes list)
      → IfOk ended (λ ending. AreLeftAfter next run.room run.explores run.max_threads run.max_steps run.body ending path.nodes list)
  ends_left (Ok (Ended value)) path list h = kept_left next run.room run.explores run.max_threads run.max_steps run.body path.nodes list h
  ends_left (Ok (Met number)) path list h = kept_left next run.room run.explores run.max_threads run.max_steps run.body path.nodes list h
  ends_left (Ok (Failed failure)) path list h = tt
  ends_left (Err refused) path list h = h
