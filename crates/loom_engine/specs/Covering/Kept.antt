-- What is kept of where a run stands, and what it tells.
use Rattle.std.specs.Prelude.{ℕ, ◌≡◌, ◌⊎◌, Bool, List, [], ◌∷◌, ◌++◌, length, slice_get, Option, Some, None}
use Rattle.loom_views.specs.declared.rt.views.Views.{Views}
use Rattle.loom_views.specs.InOrder.{IsInOrder}
use Rattle.loom_views.specs.Laws.Moves.{Leads}
use Rattle.loom_views.specs.Sight.{Sight as SightOfPoints}
use Rattle.loom_views.specs.Views.{Points, opening as first_points}
use Rattle.loom_objects.specs.declared.choice.Choice.{Choice}
use Rattle.loom_objects.specs.declared.rt.exploring.Exploring.TheVariants.{On}
use Rattle.loom_objects.specs.Scene.Stage.{Stage}
use Rattle.loom_engine.specs.declared.rt.execution.Progress.{Progress}
use Rattle.loom_engine.specs.declared.rt.states.State.{State as Kept}
use Rattle.loom_engine.specs.Execution.{ShowsCourse}
use Rattle.loom_engine.specs.Path.Route.{Route}
use Rattle.loom_engine.specs.Runs.Machine.{further_branches}
use Rattle.loom_engine.specs.Covering.Moments.{Moment}
use Rattle.loom_engine.specs.Covering.Points.{Sight, yields_seen}
use Rattle.loom_engine.specs.Covering.Sight.{seen_by}
use Rattle.loom_engine.specs.Covering.States.{State, state_of}

-- a state as the law of covering has it: that of the last schedule, and the choices since then
abbrev pub Key : Type 0 → Type 0 → Type 0
Key D S = Option (State S (Sight D (SightOfPoints ⊎ Points))) × List Choice

-- The states that were noted, the choices that led a run to each, and whether the body is known never to switch whether the search
-- explores.
pub record Noted (D S : Type 0) : Type 0 where
  pub states : List (Kept D S)
  pub led_by : List (List Choice)
  pub never : Bool

module _ {D S : Type 0} where
  -- where a run stands, with its threads' bodies, and these views in place of its own; of a body that is known never to switch whether the
  -- search explores, without how often threads have yielded
  abbrev pub state_in : Bool → Progress D → List S → Views → Kept D S
  state_in never run bodies views =
      record {
        threads = run.state.scene.threads;
        objects = run.state.scene.objects;
        views = views;
        lazies = run.state.scene.lazies;
        max_threads = run.state.scene.max_threads;
        yields = yields_seen never run.state.scene.yields;
        ordered = length run.dependence.threads;
        bodies = bodies;
      }

  -- it has what the scene has, but for whose turn it is, and for its views and yields
  pub record HasScene (kept : Kept D S) (scene : Stage D) : Type 0 where
    pub threads : kept.threads ≡ scene.threads
    pub objects : kept.objects ≡ scene.objects
    pub lazies : kept.lazies ≡ scene.lazies
    pub max_threads : kept.max_threads ≡ scene.max_threads

  -- it is one more of those that were noted, reached by these choices, or none is
  abbrev pub NotesAs : Kept D S → List Choice → Noted D S → Noted D S → Type 0
  NotesAs state choices old new = ((new.states ≡ old.states ++ state ∷ []) × (new.led_by ≡ old.led_by ++ choices ∷ []) × (new.never ≡ old.never)) ⊎ (new ≡ old)

  -- it was noted under this number; otherwise it is one more now, or none is
  abbrev pub FindsOrNotes : Kept D S → List Choice → Noted D S → Option ℕ → Noted D S → Type 0
  FindsOrNotes state choices old None new = NotesAs state choices old new
  FindsOrNotes state choices old (Some number) new = (slice_get old.states number ≡ Some state) × (new ≡ old)

  -- the states of one table, and behind them those of another, of whose body they are
  abbrev pub beside : Noted D S → Noted D S → Noted D S
  beside one other = record { states = one.states ++ other.states; led_by = one.led_by ++ other.led_by; never = other.never }

  -- what was noted keeps its number
  abbrev pub GrowsFrom : Noted D S → Noted D S → Type 0
  GrowsFrom old new = (k : ℕ) (c : List Choice) → slice_get old.led_by k ≡ Some c → slice_get new.led_by k ≡ Some c

  -- This is kept of a run at the first branch point of an operation, where its search explores, with views in the order of
  -- its own; and that is its state, as it is seen of such a body.
  pub record IsKeptOf (never : Bool) (kept : Kept D S) (key : Key D S) : Type 0 where
    pub run : Progress D
    pub path : Route
    pub moment : Moment D S
    pub shown : ShowsCourse moment.course run path
    pub led : Leads first_points moment.course.world.points
    pub first : moment.more ≡ further_branches
    pub explores : moment.course.exploring ≡ On
    pub views : Views
    pub order : IsInOrder run.state.scene.views views
    pub copied : kept ≡ state_in never run moment.bodies views
    pub state : key ≡ (Some (state_of (seen_by never) moment), [])

  -- Each that was noted is kept of a run that was, after the choices beside it, in the state that the key says.
  pub record AreKeptAfter (key : List Choice → Key D S) (noted : Noted D S) : Type 0 where
    pub counted : length noted.led_by ≡ length noted.states
    pub each : (k : ℕ) (one : Kept D S) → slice_get noted.states k ≡ Some one → (c : List Choice) × (slice_get noted.led_by k ≡ Some c) × IsKeptOf noted.never one (key c)

-- Where the same is kept of two runs, they are in the same state.
abbrev pub KeptLaw : Type 0 → Type 0 → Type 0
KeptLaw D S = (never : Bool) (kept : Kept D S) (one other : Key D S) → IsKeptOf never kept one → IsKeptOf never kept other → one ≡ other
