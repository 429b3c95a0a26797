-- An operation up to its branch point along a path, from what the machine's steps do.
use Rattle.std.proofs.Common.{◌≡◌, ℕ, ◌+◌, arith, suc, Option, None, Bool, ap, refl, sym, ◌∙◌, subst}
use Rattle.std.specs.Prelude.{Result, Ok, Err, ⊤}
use Rattle.loom_objects.specs.declared.choice.Choice.TheVariants.{Spurious}
use Rattle.loom_objects.specs.declared.failure.Stop.{Stop}
use Rattle.loom_objects.specs.declared.failure.Stop.TheVariants.{Failure, Memory}
use Rattle.loom_objects.specs.declared.operation.ExploreOp.{ExploreOp}
use Rattle.loom_objects.specs.declared.operation.Reply.{Reply}
use Rattle.loom_objects.specs.declared.operation.Request.{Request}
use Rattle.loom_objects.specs.declared.operation.Turn.{Turn}
use Rattle.loom_objects.specs.declared.operation.Turn.TheVariants as turn
use Rattle.loom_objects.specs.declared.rt.run.Entry.{Entry}
use Rattle.loom_objects.specs.declared.rt.run.Entry.TheVariants.{Answered, AtBranch, Explores, Spurious as AtSpurious}
use Rattle.loom_objects.specs.Exploring.{is_on}
use Rattle.loom_objects.specs.Rules.Steps.{enters_wait}
use Rattle.loom_objects.specs.Scene.Shown.{Shows, Comes as world_comes}
use Rattle.loom_objects.specs.Tree.Asked.{whether_spurious}
use Rattle.loom_objects.specs.Tree.Tree.{Tree, Gives, Asks, ◌>>=◌}
use Rattle.loom_objects.specs.World.{World}
use Rattle.loom_engine.specs.declared.rt.execution.Begun.{Begun}
use Rattle.loom_engine.specs.declared.rt.execution.Begun.TheVariants as begun
use Rattle.loom_engine.specs.declared.rt.execution.Progress.{Progress}
use Rattle.loom_engine.specs.Begun.{answered, begins_at, comes_to, over_begun, wakes_at, woken_at, Begins, BeginsAt}
use Rattle.loom_engine.specs.Execution.{ExecutionState, Starts, ShowsCourse, Comes, Along}
use Rattle.loom_engine.specs.Path.Route.{Route, IsSame, trail, Decides, drives}
use Rattle.loom_engine.specs.Runs.Course.{Course, carried, grown_from, one_passed}
use Rattle.loom_engine.specs.Runs.Machine.{switches}
use Rattle.loom_engine.specs.Trees.Marks.{marking}
use Rattle.loom_engine.specs.Trees.Drive.{backtrack}
use Rattle.loom_engine.proofs.Execution.Executing.{unmarked, asked, refused, answer_passes, kept_on, same_way}
use Rattle.loom_engine.proofs.Trees.Binding.{drive_then, drive_fails}

plus_one : (n : ℕ) → n + 1 ≡ suc n
plus_one n = omega arith

module _ {D : Type 0} where
  -- it has its next turn at once
  abbrev pub begun_with : Result (Turn D) Stop → Result (Begun D) Stop
  begun_with (Ok turn) = Ok (begun.Turn turn)
  begun_with (Err stop) = Err stop

  pub answered_comes : (tree : Tree (Turn D × Course D)) (path : Route) (result : Result (Turn D) Stop) (new : Progress D) (after : Route)
      → Comes tree path result new after → Comes (tree >>= answered) path (begun_with result) new after
  answered_comes tree path (Ok turn) new after come = (come.0, come.1, drive_then path.search (marking path.search.bound) tree answered (trail path) (trail after) (turn, come.0) come.2)
  answered_comes tree path (Err (Failure failure)) new after come = drive_fails path.search (marking path.search.bound) tree answered (trail path) (trail after) failure.kind come
  answered_comes tree path (Err Memory) new after come = tt

  -- ---- a wait

  module _ (n : ℕ) (old : Progress D) (path : Route) where
    abbrev unmarked_wake : trail path ≡ backtrack path.search (marking path.search.bound) (trail path) (whether_spurious (is_on path.exploring))
    unmarked_wake = sym (unmarked path.search (trail path) (whether_spurious (is_on path.exploring)) refl)

    asked_so : (c : Course D) → ShowsCourse c old path → drives (wakes_at n c) path ≡ drives (Asks (whether_spurious (is_on path.exploring)) (woken_at n c)) path
    asked_so c shown = ap (λ e. drives (Asks (whether_spurious (is_on e)) (woken_at n c)) path) shown.exploring

    pub wake_refused : (stop : Stop) (mid : Route) → Decides Spurious path (whether_spurious (is_on path.exploring)) (Err stop) mid → Along (wakes_at n) old path (Err stop) old mid
    wake_refused (Failure failure) mid says c shown =
        asked_so c shown ∙ refused (whether_spurious (is_on path.exploring)) (woken_at n c) path path unmarked_wake refl failure.kind says.0 ∙ ap (λ (p : Route). (Err failure.kind, trail p)) (sym says.1)
    wake_refused Memory mid says c shown = tt

    module _ (is_spurious : Bool) (via : Route) (says : Decides Spurious path (whether_spurious (is_on path.exploring)) (Ok is_spurious) via) (same : IsSame path via) where
      chosen : (c : Course D) → ShowsCourse c old path → drives (wakes_at n c) path ≡ drives (woken_at n c (Spurious is_spurious)) via
      chosen c shown = asked_so c shown ∙ asked (whether_spurious (is_on path.exploring)) (woken_at n c) path path unmarked_wake refl via (Spurious is_spurious) same.0.0 says

      pub wake_fails : (stop : Stop) (mid : Progress D) → ((w : World D) → Shows w old.state → world_comes (enters_wait is_spurious n w) (Err stop) mid.state) → Along (wakes_at n) old path (Err stop) mid via
      wake_fails (Failure failure) mid does c shown =
          chosen c shown ∙ ap (λ (tree : Tree (⊤ × World D)). drives (carried (one_passed c) tree >>= (λ after. Gives (begun.AtBranch, after.1))) via) (does c.world shown.world)
      wake_fails Memory mid does c shown = tt

      pub wakes : (mid : Progress D) → ((w : World D) → Shows w old.state → world_comes (enters_wait is_spurious n w) (Ok tt) mid.state) → mid.dependence ≡ old.dependence → Along (wakes_at n) old path (Ok begun.AtBranch) mid via
      wakes mid does kept c shown =
          let come = does c.world shown.world in (
            record (one_passed c) { world = come.0 },
            record {
              world = come.1;
              order = kept_on path via same.0.0 c.order old.dependence mid.dependence kept shown.order;
              place = ap suc shown.place ∙ sym (answer_passes path.search (trail path) (whether_spurious (is_on path.exploring)) (Spurious is_spurious) (trail via) says ∙ plus_one path.position);
              exploring = shown.exploring ∙ sym same.1;
            },
            chosen c shown ∙ ap (λ (tree : Tree (⊤ × World D)). drives (carried (one_passed c) tree >>= (λ after. Gives (begun.AtBranch, after.1))) via) come.2,
          )

  -- ---- the beginning

  begun_course : (op : Request D ⊤) (entry : Entry D) (old mid : Progress D) (path : Route) → Starts path.search.reduce op old (Ok entry) mid → (c : Course D) → ShowsCourse c old path
      → (v : Course D) × ShowsCourse v mid path × (drives (begins_at op c) path ≡ drives (comes_to (entry, v)) path)
  begun_course op entry old mid path starts c shown =
      let come = starts c shown.world shown.order in (
        grown_from c.world (record c { world = come.0 }),
        record { world = come.2; order = come.3; place = shown.place; exploring = shown.exploring },
        ap (λ (tree : Tree (Entry D × World D)). drives (carried c tree >>= (λ started. comes_to (started.0, grown_from c.world started.1))) path) come.1,
      )

  module _ (op : Request D ⊤) (old mid : Progress D) (path : Route) where
    pub begin_stops : (stop : Stop) → Starts path.search.reduce op old (Err stop) mid → Along (begins_at op) old path (Err stop) mid path
    begin_stops (Failure failure) starts c shown =
        ap (λ (tree : Tree (Entry D × World D)). drives (carried c tree >>= (λ started. comes_to (started.0, grown_from c.world started.1))) path) (starts c shown.world shown.order)
    begin_stops Memory starts c shown = tt

    pub begin_answered : (answer : Reply D) (active : ℕ) → active ≡ mid.state.scene.active → Starts path.search.reduce op old (Ok (Answered answer)) mid
        → Along (begins_at op) old path (Ok (begun.Turn (turn.Reply active answer))) mid path
    begin_answered answer active is starts c shown =
        let v = begun_course op (Answered answer) old mid path starts c shown in (
          v.0,
          v.1,
          v.2 ∙ ap (λ (t : ℕ). (Ok (begun.Turn (turn.Reply t answer), v.0), trail path)) (ap (λ (w : World D). w.active) v.1.world.rest ∙ sym is),
        )

    pub begin_at_branch : Starts path.search.reduce op old (Ok AtBranch) mid → Along (begins_at op) old path (Ok begun.AtBranch) mid path
    begin_at_branch starts c shown = begun_course op AtBranch old mid path starts c shown

    pub begin_waits : (n : ℕ) → Starts path.search.reduce op old (Ok (AtSpurious n)) mid → (result : Result (Begun D) Stop) (new : Progress D) (after : Route) → Along (wakes_at n) mid path result new after → Along (begins_at op) old path result new after
    begin_waits n starts result new after onward c shown =
        let v = begun_course op (AtSpurious n) old mid path starts c shown in
        same_way (begins_at op c) (wakes_at n v.0) path path result new after v.2 (onward v.0 v.1)

    pub begin_switches : (todo : ExploreOp) → Starts path.search.reduce op old (Ok (Explores todo)) mid → (result : Result (Turn D) Stop) (new : Progress D) (after : Route) → Along (switches todo) mid path result new after
        → Along (begins_at op) old path (begun_with result) new after
    begin_switches todo starts result new after onward c shown =
        let v = begun_course op (Explores todo) old mid path starts c shown in
        same_way (begins_at op c) (switches todo v.0 >>= answered) path path (begun_with result) new after v.2 (answered_comes (switches todo v.0) path result new after (onward v.0 v.1))

  pub begins_by : (old new : ExecutionState D) (op : Request D ⊤) (path after : Route) (answer : Result (Begun D) Stop) → old.over ≡ None → Along (begins_at op) old.run path answer new.run after
      → new.over ≡ over_begun answer → Begins old op path answer new after
  begins_by old new op path after answer going along over = subst (λ (o : Option Stop). BeginsAt o old op path answer new after) (sym going) (along, over)
