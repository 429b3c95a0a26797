-- What a walk promises: each run that it makes is one of the machine, by the choices that were drawn.
use Rattle.std.specs.Prelude.{ℕ, ◌≡◌, ◌≢◌, ◌<◌, ◌+◌, ◌⊎◌, Bool, true, false, List, [], ◌∷◌, length, Some, None, IfSome, Result, Ok, Err}
use Rattle.std.specs.declared.time.Duration.{Duration}
use Rattle.loom_views.specs.declared.rt.failure.FailureKind.{FailureKind}
use Rattle.loom_views.specs.declared.rt.failure.FailureKind.TheVariants.{OrdersEqual, TooManyBranches, TooManySteps}
use Rattle.loom_objects.specs.declared.choice.Choice.{Choice}
use Rattle.loom_objects.specs.declared.failure.Failure.{Failure}
use Rattle.loom_objects.specs.Tree.Tree.{Tree}
use Rattle.loom_engine.specs.Path.Drawn.{led_by}
use Rattle.loom_engine.specs.Path.Route.{Route, chosen}
use Rattle.loom_engine.specs.Trees.Outcomes.{choices_made, outcome}
use Rattle.loom_engine.specs.Trees.Replay.{replayed}
use Rattle.loom.specs.declared.model.builder.Builder.{Builder}
use Rattle.loom.specs.declared.model.run.Ending.{Ending}
use Rattle.loom.specs.declared.model.run.Ending.TheVariants.{Ended, Failed as Fails}
use Rattle.loom.specs.declared.model.walk.Taken.{Taken}
use Rattle.loom.specs.declared.model.walk.Taken.TheVariants.{On, Failed as Told}
use Rattle.loom.specs.declared.model.walk.Walk.{Walk}
use Rattle.loom.specs.declared.model.walk.Walk.TheVariants.{Random, Priorities}
use Rattle.loom.specs.declared.model.walk.Walked.{Walked}
use Rattle.loom.specs.declared.model.walk.Walked.TheVariants.{Made, Failed}
use Rattle.loom.specs.Model.Check.{HasLasted}
use Rattle.loom.specs.Model.Different.{Counted, IsCount, Notes, Tells, TellsDifferent, hash_of}
use Rattle.loom.specs.Model.Parts.{GivenBack}
use Rattle.loom.specs.Model.Run.{RunsAlong}
use Rattle.loom.specs.Model.Turns.{EndsWith}
use Rattle.loom.specs.Explain.Story.{Story}
use Rattle.loom_explain.specs.declared.event.Event.{Event}

-- how many runs a walk is to make
abbrev pub asked_runs : Walk → ℕ
asked_runs (Random seed runs) = runs
asked_runs (Priorities seed runs depth) = runs

-- a run that ends so was cut by its length
abbrev pub is_cut : FailureKind → Bool
is_cut TooManyBranches = true
is_cut TooManySteps = true
is_cut _ = false

-- the story has this end, with some events before it
abbrev pub EndsSo : {D : Type 0} → Story D → Ending D → Route → Type 0
EndsSo whole ending path = (events : List Event) × EndsWith whole events ending path

-- the run of the tree by the choices that were drawn ends so, as it does along the path that was given them
abbrev pub RunsDrawn : {D : Type 0} → Tree D → Route → Ending D → Route → Type 0
RunsDrawn tree old ending new = RunsAlong tree (led_by (chosen new) old) ending (led_by (chosen new) new)

module _ {D : Type 0} (max_branches : ℕ) (tree : Tree D) where
  -- A run by choices that were drawn. Each is an option where it comes, and they lead to this; and just so they replay.
  pub record IsDrawnRun (choices : List Choice) (comes : Result D FailureKind) : Type 0 where
    pub leads : outcome max_branches tree choices ≡ Some comes
    pub replays : replayed max_branches tree choices ≡ (choices, comes)

  -- what is known of a run by these choices that ends so; it isn't known where it failed
  abbrev pub EndsDrawn : List Choice → Ending D → Type 0
  EndsDrawn choices (Ended value) = IsDrawnRun choices (Ok value)
  EndsDrawn choices (Fails failure) = IsDrawnRun choices (Err failure.kind) × (failure.location ≡ None)

  abbrev pub AreDrawnRuns : List (List Choice × D) → Type 0
  AreDrawnRuns [] = Unit {0}
  AreDrawnRuns (made ∷ runs) = IsDrawnRun made.0 (Ok made.1) × AreDrawnRuns runs

-- What becomes of a run by these choices that ended so: the visitor is given it, and its hash is noted; or it is one more that was cut, or its
-- failure is reported.
abbrev pub TakesRun : {V D : Type 0} → (V → List Choice → D → V → Type 0) → V → V → Counted → Counted → List Choice → Ending D → ℕ → ℕ → Taken → Type 0
TakesRun takes old new d noted x (Ended value) was cut On = takes old x value new × Notes (hash_of x) d noted × (cut ≡ was)
TakesRun takes old new d noted x (Ended value) was cut (Told kind choices) = ⊥
TakesRun takes old new d noted x (Fails failure) was cut On = (new ≡ old) × (noted ≡ d) × (cut ≡ was + 1)
TakesRun takes old new d noted x (Fails failure) was cut (Told kind choices) =
    (new ≡ old) × (cut ≡ was) × (kind ≡ failure.kind) × (is_cut failure.kind ≡ false) × (choices.items ≡ x)

module _ {D : Type 0} (b : Builder) (tree : Tree D) where
  -- a run failed under these choices, and wasn't cut by its length
  pub record HasFailed (failure : Failure) (choices : List Choice) : Type 0 where
    pub fails : IsDrawnRun b.max_branches tree choices (Err failure.kind)
    pub uncut : is_cut failure.kind ≡ false
    pub placed : b.location ≡ false → failure.location ≡ None

module _ {V D : Type 0} (takes : V → List Choice → D → V → Type 0) (old new : V) (b : Builder) (tree : Tree D) where
  -- the visitor was given these runs, so many, the newest first
  pub record HasGiven (count : ℕ) : Type 0 where
    pub runs : List (List Choice × D)
    pub given : GivenBack takes old runs new
    pub counted : length runs ≡ count
    pub drawn : AreDrawnRuns b.max_branches tree runs

  -- What a walk reports. It makes as many runs as it was asked for, unless one fails or its time is up.
  abbrev pub Walks : Walk → (Duration → Type 0) → Walked → Type 0
  Walks walk answered (Made runs cut different) = (made : HasGiven runs) × TellsDifferent different (choices_made made.runs)
      × ((runs + cut ≡ asked_runs walk) ⊎ ((runs + cut < asked_runs walk) × HasLasted answered b.max_duration))
  Walks walk answered (Failed runs cut failure choices) = HasGiven runs × (runs + cut < asked_runs walk) × HasFailed b tree failure choices.items

  -- and what is noted of the runs, where none failed
  abbrev pub WalksNoting : Counted → Walk → (Duration → Type 0) → Walked → Type 0
  WalksNoting noted walk answered (Made runs cut different) = (made : HasGiven runs) × Tells noted (choices_made made.runs) × IfSome different (IsCount noted)
      × ((runs + cut ≡ asked_runs walk) ⊎ ((runs + cut < asked_runs walk) × HasLasted answered b.max_duration))
  WalksNoting noted walk answered (Failed runs cut failure choices) = HasGiven runs × (runs + cut < asked_runs walk) × HasFailed b tree failure choices.items

-- no run failed because the orders of two stores are equal
abbrev pub WalksNoEqualOrders : Walked → Type 0
WalksNoEqualOrders (Made runs cut different) = Unit {0}
WalksNoEqualOrders (Failed runs cut failure choices) = failure.kind ≢ OrdersEqual
