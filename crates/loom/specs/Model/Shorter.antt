-- What is promised of a shorter failure: it fails by the same kind as the run that was given, and replays.
use Rattle.std.specs.Prelude.{ℕ, ◌≡◌, ◌≢◌, ◌⊎◌, List, Option, Some, None, false, Err}
use Rattle.loom_views.specs.declared.rt.failure.FailureKind.{FailureKind}
use Rattle.loom_objects.specs.declared.choice.Choice.{Choice}
use Rattle.loom_objects.specs.Tree.Tree.{Tree}
use Rattle.loom_engine.specs.Trees.Replay.{replayed}
use Rattle.loom.specs.declared.model.builder.Builder.{Builder}
use Rattle.loom.specs.declared.model.run.Ending.{Ending}
use Rattle.loom.specs.declared.model.run.Ending.TheVariants.{Ended, Failed}
use Rattle.loom.specs.declared.model.shorten.Shortened.{Shortened}

module _ {D : Type 0} where
  -- the run by these choices fails so
  abbrev pub ReplaysTo : ℕ → Tree D → List Choice → FailureKind → Type 0
  ReplaysTo max_branches tree choices kind = (replayed max_branches tree choices).1 ≡ Err kind

  -- a run that ended so failed by this kind
  abbrev pub FailsSo : FailureKind → Ending D → Type 0
  FailsSo kind (Ended value) = ⊥
  FailsSo kind (Failed failure) = failure.kind ≡ kind

  -- the shortest run stays, or it is the one by these choices, which failed so
  abbrev pub IsBetter : FailureKind → Ending D → List Choice → List Choice → List Choice → Type 0
  IsBetter kind ending x old new = (new ≡ old) ⊎ (FailsSo kind ending × (new ≡ x))

  -- what is found fails as the given run does
  pub record IsShortened (b : Builder) (tree : Tree D) (given : List Choice) (found : Shortened) : Type 0 where
    pub same : ReplaysTo b.max_branches tree given found.failure.kind
    pub replays : ReplaysTo b.max_branches tree found.choices.items found.failure.kind
    pub placed : b.location ≡ false → found.failure.location ≡ None

  -- nothing is found only where the given run doesn't fail
  abbrev pub Shortens : Builder → Tree D → List Choice → Option Shortened → Type 0
  Shortens b tree given None = (kind : FailureKind) → (replayed b.max_branches tree given).1 ≢ Err kind
  Shortens b tree given (Some found) = IsShortened b tree given found
