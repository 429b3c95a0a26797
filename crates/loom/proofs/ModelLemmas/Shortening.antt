-- A run that fails as another one does.
use Rattle.std.proofs.Common.{◌≡◌, ℕ, Bool, false, List, [], inl, inr, refl, ap, sym, ◌∙◌, subst}
use Rattle.std.specs.Prelude.{None, Result, Err}
use Rattle.loom_views.specs.declared.rt.failure.FailureKind.{FailureKind}
use Rattle.loom_objects.specs.declared.choice.Choice.{Choice}
use Rattle.loom_objects.specs.Tree.Tree.{Tree}
use Rattle.loom_engine.specs.Path.Route.{Route, at_rest, chosen, drives, trail}
use Rattle.loom_engine.specs.Runs.Sound.{IsRunTree}
use Rattle.loom_engine.specs.Trees.Meeting.{whole_search}
use Rattle.loom_engine.specs.Trees.Replay.{replayed}
use Rattle.loom.specs.declared.model.builder.Builder.{Builder}
use Rattle.loom.specs.declared.model.run.Ending.{Ending}
use Rattle.loom.specs.declared.model.run.Ending.TheVariants.{Ended, Failed}
use Rattle.loom.specs.declared.model.shorten.Shortened.{Shortened}
use Rattle.loom.specs.Model.Shorter.{FailsSo, IsBetter, IsShortened, ReplaysTo}
use Rattle.loom.specs.Model.Walking.{EndsDrawn}
use Rattle.loom.proofs.ModelLemmas.Replaying.{replays}

module _ {D : Type 0} where
  -- the run along a path that is to follow choices ends as their replay
  pub replay_comes : (explores : Bool) (max_branches : ℕ) (tree : Tree D) (given : List Choice) (path after : Route) (comes : Result D FailureKind) → IsRunTree tree
      → path ≡ record (at_rest (whole_search max_branches) explores []) { given = given } → drives tree path ≡ (comes, trail after) → (replayed max_branches tree given).1 ≡ comes
  replay_comes explores max_branches tree given path after comes sound is e =
      ap (λ (r : List Choice × Result D FailureKind). r.1) (replays explores max_branches tree given path after (chosen after) comes sound is e refl).replayed

  pub drawn_fails : (max_branches : ℕ) (tree : Tree D) (x : List Choice) (kind : FailureKind) (ending : Ending D) → EndsDrawn max_branches tree x ending → FailsSo kind ending → ReplaysTo max_branches tree x kind
  drawn_fails max_branches tree x kind (Ended value) drawn fails = absurd fails
  drawn_fails max_branches tree x kind (Failed failure) drawn fails =
      ap (λ (r : List Choice × Result D FailureKind). r.1) drawn.0.replays ∙ ap (λ (k : FailureKind). Err k) fails

  pub better_fails : (max_branches : ℕ) (tree : Tree D) (x old new : List Choice) (kind : FailureKind) (ending : Ending D) → EndsDrawn max_branches tree x ending → ReplaysTo max_branches tree old kind
      → IsBetter kind ending x old new → ReplaysTo max_branches tree new kind
  better_fails max_branches tree x old new kind ending drawn fails (inl same) = subst (λ (l : List Choice). ReplaysTo max_branches tree l kind) (sym same) fails
  better_fails max_branches tree x old new kind ending drawn fails (inr found) =
      subst (λ (l : List Choice). ReplaysTo max_branches tree l kind) (sym found.1) (drawn_fails max_branches tree x kind ending drawn found.0)

  -- a run that fails so was found for one that does
  pub shortened : (b : Builder) (tree : Tree D) (given : List Choice) (kind : FailureKind) (found : Shortened) → found.failure.kind ≡ kind → ReplaysTo b.max_branches tree given kind
      → ReplaysTo b.max_branches tree found.choices.items kind → (b.location ≡ false → found.failure.location ≡ None) → IsShortened b tree given found
  shortened b tree given kind found same fails replays placed = record {
    same = subst (λ (k : FailureKind). ReplaysTo b.max_branches tree given k) (sym same) fails;
    replays = subst (λ (k : FailureKind). ReplaysTo b.max_branches tree found.choices.items k) (sym same) replays;
    placed = placed;
  }
