-- A replay makes the run that follows its choices.
use Rattle.std.proofs.Common.{◌≡◌, ℕ, Bool, List, [], ap, sym, ◌∙◌}
use Rattle.std.specs.Prelude.{Some, None, Result}
use Rattle.loom_views.specs.declared.rt.failure.FailureKind.{FailureKind}
use Rattle.loom_objects.specs.declared.choice.Choice.{Choice}
use Rattle.loom_objects.specs.Tree.Tree.{Tree}
use Rattle.loom_engine.specs.Walk.Path.{choices}
use Rattle.loom_engine.specs.Trees.Outcomes.{outcome}
use Rattle.loom_engine.specs.Trees.Marks.{marking}
use Rattle.loom_engine.specs.Trees.Replay.{replayed}
use Rattle.loom_engine.specs.Path.Route.{Route, at_rest, stored, trail, chosen, drives}
use Rattle.loom_engine.specs.Trees.Meeting.{whole_search}
use Rattle.loom_engine.specs.Runs.Sound.{IsRunTree}
use Rattle.loom_engine.proofs.Trees.Marks.{marking_law}
use Rattle.loom_engine.proofs.Trees.Replays.{replayed_as, allowed_replay_law}
use Rattle.loom.specs.Model.Fresh.{IsReplay}
use Rattle.loom.proofs.ModelLemmas.Checking.{take_all}

pub replays : {D : Type 0} (explores : Bool) (max_branches : ℕ) (tree : Tree D) (given : List Choice) (path after : Route) (list : List Choice) (comes : Result D FailureKind) → IsRunTree tree
    → path ≡ record (at_rest (whole_search max_branches) explores []) { given = given } → drives tree path ≡ (comes, trail after) → list ≡ chosen after
    → IsReplay max_branches tree given list comes
replays explores max_branches tree given path after list comes sound is e same =
    let s = whole_search max_branches in
    let r = replayed_as s (marking None) tree given comes (trail after) (sym (ap (λ (p : Route). drives tree p) is) ∙ e) in
    let made : list ≡ choices (stored after.nodes) = same ∙ ap choices (take_all (stored after.nodes) after.position r.1) in
    let whole : replayed max_branches tree given ≡ (list, comes) = r.0 ∙ ap (λ (l : List Choice). (l, comes)) (sym made) in
    let law = allowed_replay_law s (marking None) tree given sound.sound (marking_law None).0 in
    record {
      replayed = whole;
      allowed = λ a. (
        sym (ap (λ (r : List Choice × Result _ FailureKind). r.0) whole) ∙ (law.0 a).0,
        ap (outcome max_branches tree) (sym (ap (λ (r : List Choice × Result _ FailureKind). r.0) whole) ∙ (law.0 a).0) ∙ (law.0 a).1
            ∙ ap (λ (r : List Choice × Result _ FailureKind). Some r.1) whole,
      );
    }
