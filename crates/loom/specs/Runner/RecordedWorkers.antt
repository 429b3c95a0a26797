-- Several workers that make runs of what is recorded of a closure: what comes of a part, and of a turn, by each function of which the
-- recording is true.
use Rattle.std.specs.Prelude.{ℕ, ◌≡◌, Bool, List, [], ◌∷◌, Option, Some, None}
use Rattle.loom_objects.specs.declared.choice.Choice.{Choice}
use Rattle.loom_engine.specs.declared.rt.execution.Limits.{Limits}
use Rattle.loom_engine.specs.declared.rt.parts.Parts.{Parts}
use Rattle.loom_engine.specs.Path.Route.{Route, at_rest}
use Rattle.loom.specs.declared.model.builder.Builder.{Builder}
use Rattle.loom.specs.declared.model.rounds.Round.{Round}
use Rattle.loom.specs.declared.model.rounds.Round.TheVariants.{Next}
use Rattle.loom.specs.declared.runner.parallel.round.Done.{Done}
use Rattle.loom.specs.declared.runner.parallel.round.Job.{Job}
use Rattle.loom.specs.declared.runner.parallel.round.Turn.{Turn}
use Rattle.loom.specs.Model.Loop.{Comes}
use Rattle.loom.specs.Model.Parts.{ComesToAbove}
use Rattle.loom.specs.Model.Settings.{explores}
use Rattle.loom.specs.Runner.Recorded.{Function, Word, runs_by}
use Rattle.loom.specs.Runner.Recording.{Answers, IsTrueOf}
use Rattle.loom.specs.Runner.Workers.{MayBeWorkedOn, TakesTurn}

-- ---- one run

module _ {V D : Type 0} (takes : V → List Choice → D → V → Type 0) (limits : Limits) (keeps : Bool) (recording : Answers D) (floor : ℕ) (path : Route) (v : V) (path' : Route) (v' : V) where
  -- the run along the path, and its step above the floor, are those of each function of which the recording is true
  pub record IsKnownAbove (round : Round) : Type 0 where
    pub along : (does : Function D) (words : List (Word D)) → IsTrueOf does words recording
        → ComesToAbove (Comes (runs_by does path.explores limits.max_threads limits.max_steps) keeps) takes floor path v round path' v'
    pub rests : round ≡ Next → path' ≡ at_rest path.search path.explores path'.nodes

  -- or an answer isn't recorded
  abbrev pub IsKnownOrLacks : Option Round → Type 0
  IsKnownOrLacks None = (path' ≡ path) × (v' ≡ v)
  IsKnownOrLacks (Some round) = IsKnownAbove round

-- ---- a part, and each of them

module _ {V D : Type 0} (takes : V → List Choice → D → V → Type 0) (b : Builder) (recording : Answers D) where
  -- A part was worked on by what is recorded, if a run of it could be made so.
  pub record IsPlayed (job : Job V) (done : Done V) : Type 0 where
    pub so : (does : Function D) (words : List (Word D)) → IsTrueOf does words recording → MayBeWorkedOn takes b (runs_by does (explores b) b.max_threads b.max_steps) job done

  abbrev pub ArePlayed : List (Job V) → List (Done V) → Type 0
  ArePlayed [] [] = Unit {0}
  ArePlayed [] (done ∷ later) = ⊥
  ArePlayed (job ∷ jobs) [] = ⊥
  ArePlayed (job ∷ jobs) (done ∷ later) = IsPlayed job done × ArePlayed jobs later

-- ---- a turn

-- It is one of each function of which the recording is true.
abbrev pub TakesKnown : {G V D : Type 0} → (V → List Choice → D → V → Type 0) → (V → Type 0) → (G → V → G → Type 0) → Builder → Answers D → Parts → Parts → G → G → Turn → Type 0
TakesKnown takes is_new joins b recording before after old later turn =
    (does : Function _) (words : List (Word _)) → IsTrueOf does words recording → TakesTurn takes is_new joins b (runs_by does (explores b) b.max_threads b.max_steps) before after old later turn
