-- Runs that are kept at branch points, and one of them that is gone on with.
use Rattle.std.specs.Prelude.{ℕ, ◌≡◌, ◌≤◌, ◌⊎◌, Bool, true, false, List, [], ◌∷◌, ◌++◌, length, slice_get, Some}
use Rattle.loom_engine.specs.declared.rt.snapshots.Snapshot.{Snapshot}
use Rattle.loom_engine.specs.Execution.{ExecutionState}
use Rattle.loom_engine.specs.Path.Route.{Route}
use Rattle.loom_engine.specs.Path.Tallies.{IsTally}

module _ {D S : Type 0} where
  -- it is kept of the run that is there along its path, with its threads' bodies
  pub record IsKeptOf (execution : ExecutionState D) (bodies : List S) (path : Route) (kept : Snapshot D S) : Type 0 where
    pub same_execution : kept.execution ≡ execution
    pub same_bodies : kept.bodies ≡ bodies
    pub place : kept.standing.position ≡ path.position
    pub exploring : kept.standing.exploring ≡ path.exploring
    pub tally : IsTally path.nodes path.position kept.standing.tally

  -- one more is kept; those before it are, or aren't any more
  abbrev pub KeepsOne : ExecutionState D → List S → Route → List (Snapshot D S) → List (Snapshot D S) → Type 0
  KeepsOne execution bodies path old new = (kept : Snapshot D S) × IsKeptOf execution bodies path kept × ((new ≡ old ++ kept ∷ []) ⊎ (new ≡ kept ∷ []))

  -- the path has as many nodes, and the tally is that of the first of them
  abbrev pub Fits : Route → Snapshot D S → Type 0
  Fits path kept = (kept.standing.position ≤ length path.nodes) × IsTally path.nodes kept.standing.position kept.standing.tally

  -- the run is the one that was kept, along this path
  pub record GoesOn (kept : Snapshot D S) (old : Route) (execution : ExecutionState D) (bodies : List S) (new : Route) : Type 0 where
    pub same_execution : execution ≡ kept.execution
    pub same_bodies : bodies ≡ kept.bodies
    pub path : new ≡ record old { position = kept.standing.position; exploring = kept.standing.exploring }

  -- one of those that are kept is gone on with, or there is none
  abbrev pub GoesOnWithOne : List (Snapshot D S) → Route → Bool → ExecutionState D → List S → Route → Type 0
  GoesOnWithOne list old true execution bodies new = (k : ℕ) × (kept : Snapshot D S) × (slice_get list k ≡ Some kept) × GoesOn kept old execution bodies new
  GoesOnWithOne list old false execution bodies new = new ≡ old
