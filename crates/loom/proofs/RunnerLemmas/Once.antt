-- No list of choices comes twice.
use Rattle.std.proofs.Common.{◌≡◌, Bool, List, [], ◌∷◌, map, Option, Some, ap, sym, ◌∙◌, subst, inl, inr}
use Rattle.loom_objects.specs.declared.choice.Choice.{Choice}
use Rattle.loom_objects.specs.declared.failure.Failure.{Failure}
use Rattle.loom_engine.specs.Walk.Lists.{Member, IsOnce}
use Rattle.loom_engine.specs.Walk.Path.{choices}
use Rattle.loom_engine.specs.Walk.UnderWay.{IsPartedAt}
use Rattle.loom_engine.specs.Trees.Marks.{marking}
use Rattle.loom_engine.specs.Trees.Meeting.{Settings}
use Rattle.loom_engine.specs.Trees.Resuming.{HasFailedFrom, own, differs, fails_early}
use Rattle.loom_engine.proofs.Walk.Left.{never_again}
use Rattle.loom_engine.proofs.Walk.Lists.{node_chooses, snoc_append}
use Rattle.loom_engine.specs.Path.Route.{Route, at_rest, stored}
use Rattle.loom_engine.specs.declared.rt.execution.Limits.{Limits}
use Rattle.loom.specs.Runner.Chains.{Run, HasEnded, HasFailed, GoesTo, choices_of, tree_of, machine, Follow}
use Rattle.loom.specs.Runner.Laws.{OnceLaw}
use Rattle.loom.proofs.RunnerLemmas.Paths.{WasMade, still_made, made_on, now_made, not_made}
use Rattle.loom.proofs.RunnerLemmas.Following.{IsFine, read_fine, begins_fine, is_machine, chosen_so, left_so, left_by, begins, failed_from}

module _ {D : Type 0} (limits : Limits) (s : Settings) (explores : Bool) (start : Route) (good : IsFine s explores start) where
  -- the run was made by the path to which the search goes on from it
  last_made : (r : Run D) → IsFine s explores r.began → HasEnded limits r → (later : Route) → GoesTo r.now.route (Some later) → WasMade (stored later.nodes) (choices_of r)
  last_made r fine ended later goes =
      let same : choices_of r ≡ choices (stored r.now.route.nodes) = chosen_so s explores limits r fine ended ∙ ap choices (sym (left_so s explores limits r fine ended)) in
      subst (WasMade (stored later.nodes)) (sym same) (now_made (stored r.now.route.nodes) (stored later.nodes) goes.0)

  made_all : (runs : List (Run D)) (later : Route) → Follow limits start runs (Some later) → (x : List Choice) → Member x (map choices_of runs) → WasMade (stored later.nodes) x
  made_all [] later h x member = absurd member
  made_all (r ∷ runs) later (before, ended, goes) x (inl e) = subst (WasMade (stored later.nodes)) (sym e) (last_made r (begins_fine s explores limits start good runs r.began before) ended later goes)
  made_all (r ∷ runs) later (before, ended, goes) x (inr member) =
      made_on (stored r.now.route.nodes) (stored later.nodes) x goes.0
      (still_made (stored r.began.nodes) (stored r.now.route.nodes) x (left_by s explores limits r (begins_fine s explores limits start good runs r.began before) ended) (made_all runs r.began before x member))

  pub once : (runs : List (Run D)) (later : Option Route) → Follow limits start runs later → IsOnce (map choices_of runs)
  once [] later h = tt
  once (r ∷ runs) later (before, ended, goes) =
      let fine = begins_fine s explores limits start good runs r.began before in (
        λ member. not_made (stored r.began.nodes) (choices_of r) fine.well.rest (made_all runs r.began before (choices_of r) member) (inl (begins s explores limits r fine ended)),
        once runs (Some r.began) before,
      )

  -- a run that failed was left, or it stopped on the way of its path
  failing_new : (r : Run D) (failure : Failure) → IsFine s explores r.began → HasFailed limits r failure → WasMade (stored r.began.nodes) (choices_of r) → ⊥
  failing_new r failure fine f z = go (failed_from s explores limits r fine failure f)
    where
      stops : IsPartedAt (machine limits s r) (stored r.began.nodes) (choices_of r) → ⊥
      stops parted =
          let b = node_chooses (stored r.began.nodes) (choices_of r) parted.node parted.stands in
          not_made (stored r.began.nodes) (choices_of r) fine.well.rest z (inr (parted.node.present ∷ b.0, b.1))

      go : HasFailedFrom s (marking s.bound) (tree_of limits r) (stored r.began.nodes) [] failure.kind (choices_of r) → ⊥
      go (own i) =
          never_again (machine limits s r) (is_machine s explores limits r fine) (stored r.began.nodes) i.of_tree z.before z.node z.option z.at z.visited (choices_of r) i.left z.begins.0
          (z.begins.1 ∙ snoc_append z.before z.option z.begins.0)
      go (differs i) = stops i.parted
      go (fails_early i) = stops i.parted

pub once_law : {D : Type 0} → OnceLaw D
once_law limits s explores text path runs later reads h = (
  once limits s explores start good runs later h,
  λ r failure e f member. (
      let before = subst (Follow limits start runs) e h in
      failing_new limits s explores start good r failure (begins_fine s explores limits start good runs r.began before) f (made_all limits s explores start good runs r.began before (choices_of r) member)
      ),
)
  where
    start : Route
    start = at_rest s explores path

    good : IsFine s explores (at_rest s explores path)
    good = read_fine s explores text path reads
