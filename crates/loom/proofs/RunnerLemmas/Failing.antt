-- Why runs fail.
use Rattle.std.proofs.Common.{◌≡◌, ◌≢◌, ◌∙◌, Bool, List, [], ◌∷◌, Some, ap, subst}
use Rattle.loom_views.specs.declared.rt.failure.FailureKind.TheVariants.{NotDeterministic}
use Rattle.loom_objects.specs.declared.failure.Failure.{Failure}
use Rattle.loom_engine.specs.Walk.Path.{Stored}
use Rattle.loom_engine.specs.Walk.UnderWay.{IsPartedAt}
use Rattle.loom_engine.specs.Trees.Marks.{marking}
use Rattle.loom_engine.specs.Trees.Meeting.{Settings}
use Rattle.loom_engine.specs.Trees.Resuming.{HasFailedFrom, own, differs, fails_early}
use Rattle.loom_engine.specs.Path.Route.{Route, at_rest, stored}
use Rattle.loom_engine.specs.declared.rt.execution.Limits.{Limits}
use Rattle.loom_engine.specs.declared.rt.path.node.Node.{Node}
use Rattle.loom.specs.Runner.Chains.{Run, HasFailed, choices_of, tree_of, machine, Follow}
use Rattle.loom.specs.Runner.Laws.{FailsSo, FailureLaw}
use Rattle.loom.proofs.RunnerLemmas.Following.{IsFine, read_fine, no_node, begins_fine, failed_from}

module _ {D : Type 0} (limits : Limits) (s : Settings) (explores : Bool) where
  fails_so : (r : Run D) (failure : Failure) → IsFine s explores r.began → HasFailed limits r failure → FailsSo limits s r failure
  fails_so r failure fine f = go (failed_from s explores limits r fine failure f)
    where
      go : HasFailedFrom s (marking s.bound) (tree_of limits r) (stored r.began.nodes) [] failure.kind (choices_of r) → FailsSo limits s r failure
      go (own i) = record { differs = λ e. absurd (i.own e); replays = λ other. i.replays }
      go (differs i) = record { differs = λ e. i.parted; replays = λ other. absurd (other i.is) }
      go (fails_early i) = record { differs = λ e. absurd (i.own e); replays = λ other. i.replays }

  never_first : (path : List Node) (runs : List (Run D)) (r : Run D) (failure : Failure) → Follow limits (at_rest s explores path) runs (Some r.began) → FailsSo limits s r failure → runs ≡ [] → path ≡ []
      → failure.kind ≢ NotDeterministic
  never_first path [] r failure h so none without e =
      let same : r.began ≡ at_rest s explores path = cc h in
      let parted = subst (λ (l : List Stored). IsPartedAt (machine limits s r) l (choices_of r)) (ap (λ (t : Route). stored t.nodes) same ∙ ap stored without) (so.differs e) in
      no_node (choices_of r) parted.node parted.stands
  never_first path (x ∷ runs) r failure h so none without e = cc none

pub failure_law : {D : Type 0} → FailureLaw D
failure_law limits s explores text path runs r failure reads h f =
    let good = read_fine s explores text path reads in
    let so = fails_so limits s explores r failure (begins_fine s explores limits (at_rest s explores path) good runs r.began h) f in
    (so, never_first limits s explores path runs r failure h so)
