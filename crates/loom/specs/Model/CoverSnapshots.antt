-- A search that remembers states, whose runs go on from where earlier ones stood: what is known of those that are kept.
use Rattle.std.specs.Prelude.{ℕ, suc, ◌≡◌, ◌<◌, ◌⊎◌, All, Bool, false, List, length, map, None, Result, Ok, Err}
use Rattle.loom_objects.specs.declared.operation.Turn.{Turn}
use Rattle.loom_objects.specs.Dependence.Shown.{Keeps}
use Rattle.loom_objects.specs.Scene.Shown.{Shows}
use Rattle.loom_engine.specs.declared.rt.path.node.Node.{Node}
use Rattle.loom_engine.specs.declared.rt.snapshots.Snapshot.{Snapshot}
use Rattle.loom_engine.specs.Covering.UnderWay.{StoodAt}
use Rattle.loom_engine.specs.Execution.{ExecutionState}
use Rattle.loom_engine.specs.Path.Route.{Route, stored}
use Rattle.loom_engine.specs.Path.Tallies.{Tallies}
use Rattle.loom_engine.specs.Runs.Body.{Meaning}
use Rattle.loom_engine.specs.Runs.Course.{Course}
use Rattle.loom_engine.specs.Snapshots.{KeepsOne}
use Rattle.loom_engine.specs.Trees.Drive.{pass_of}
use Rattle.loom_engine.specs.Trees.Marks.{marking}
use Rattle.loom_engine.specs.Trees.Retracing.{BeginsWith}
use Rattle.loom_engine.specs.Walk.Path.{Stored}
use Rattle.loom.specs.declared.model.cover.run.Ending.{Ending}
use Rattle.loom.specs.declared.model.cover.run.Ending.TheVariants.{Ended, Met, Failed}
use Rattle.loom.specs.declared.model.cover.run.Halt.{Halt}
use Rattle.loom.specs.declared.model.cover.run.Halt.TheVariants as halt
use Rattle.loom.specs.Model.Cover.{Noting}

-- how many nodes a run may have, how it begins, and its body
module _ {D S : Type 0} (next : Meaning D S) (room : ℕ) (explores : Bool) (max_threads max_steps : ℕ) (body : S) where
  -- A run that had passed these nodes is kept: it shows a course, and stood so.
  pub record IsKeptBy (front : List Stored) (kept : Snapshot D S) : Type 0 where
    pub course : Course D
    pub world : Shows course.world kept.execution.run.state
    pub order : Keeps false course.order kept.execution.run.dependence
    pub place : course.passed ≡ kept.standing.position
    pub exploring : course.exploring ≡ kept.standing.exploring
    pub going : kept.execution.over ≡ None
    pub passed : length front ≡ kept.standing.position
    pub tally : Tallies kept.standing.position (map pass_of front) kept.standing.tally
    pub stood : StoodAt room (marking None) next explores max_threads max_steps body front (suc course.world.steps_left) kept.bodies course

  -- and the path has those nodes still
  abbrev pub IsKept : List Node → Snapshot D S → Type 0
  IsKept nodes kept = (front : List Stored) × BeginsWith front (stored nodes) × IsKeptBy front kept

  abbrev pub AreKept : List Node → List (Snapshot D S) → Type 0
  AreKept nodes list = All (IsKept nodes) list

  -- Before a run, the path may have fewer nodes: those that are kept before its last one are kept still.
  abbrev pub AreLeft : List Node → List (Snapshot D S) → Type 0
  AreLeft nodes list = All (λ kept. kept.standing.position < length nodes → IsKept nodes kept) list

  -- after a run, unless it failed, they may be gone on with along the paths after it
  abbrev pub AreLeftAfter : Ending D → List Node → List (Snapshot D S) → Type 0
  AreLeftAfter (Ended value) nodes list = AreLeft nodes list
  AreLeftAfter (Met number) nodes list = AreLeft nodes list
  AreLeftAfter (Failed failure) nodes list = Unit {0}

module _ {D S : Type 0} (next : Meaning D S) (run : Noting D S) where
  -- those of this run's body
  abbrev pub AreKeptIn : List Node → List (Snapshot D S) → Type 0
  AreKeptIn nodes list = AreKept next run.room run.explores run.max_threads run.max_steps run.body nodes list

  -- what an event leaves of them: all, unless the run fails
  abbrev pub AreKeptBy : Result (Turn D) Halt → List Node → List (Snapshot D S) → Type 0
  AreKeptBy (Ok turn) nodes list = AreKeptIn nodes list
  AreKeptBy (Err (halt.Met number)) nodes list = AreKeptIn nodes list
  AreKeptBy (Err (halt.Stopped stop)) nodes list = Unit {0}

  -- and what the run leaves
  abbrev pub AreKeptAfter : Ending D → List Node → List (Snapshot D S) → Type 0
  AreKeptAfter (Ended value) nodes list = AreKeptIn nodes list
  AreKeptAfter (Met number) nodes list = AreKeptIn nodes list
  AreKeptAfter (Failed failure) nodes list = Unit {0}

-- one more is kept, or none is
abbrev pub MayKeepOne : {D S : Type 0} → ExecutionState D → List S → Route → List (Snapshot D S) → List (Snapshot D S) → Type 0
MayKeepOne execution bodies path old new = KeepsOne execution bodies path old new ⊎ (new ≡ old)
