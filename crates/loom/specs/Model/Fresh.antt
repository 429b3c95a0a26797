-- What a check promises that begins without a path. The runs of a body are a tree: `runs` in `loom_engine/specs/Runs/Body.antt` says
-- which. A run is the list of the choices that it makes, and the machine of a tree says which node a run meets after which
-- choices. The settings say which runs are made: the one that takes defaults throughout, and with each run those that it calls
-- for (`Reachable`, `marking`). The runs that the visitor was given (`WasGiven`) are as many as the report counts, and
-- `IsCompleteReport`, `IsStoppedReport` or `IsFailedReport` is what the report says of them (their records are in
-- `loom_engine/specs/Trees/Reported.antt`). What a replay does is `Replays`.
-- None says that reduction or a bound leaves no failure out. `Check.antt` speaks of the calls, and of checks that begin with a path.
use Rattle.std.specs.Prelude.{◌≡◌, ℕ, List, [], ◌∷◌, Some, Result, Ok, Err, length}
use Rattle.loom_views.specs.declared.rt.failure.FailureKind.{FailureKind}
use Rattle.loom_objects.specs.declared.choice.Choice.{Choice}
use Rattle.loom_objects.specs.Tree.Tree.{Tree}
use Rattle.loom_engine.specs.Walk.Machine.{Machine, run}
use Rattle.loom_engine.specs.Walk.Lists.{IsAllowed}
use Rattle.loom_engine.specs.Trees.Marks.{marking}
use Rattle.loom_engine.specs.Trees.Meeting.{Settings, whole_search, machine_of}
use Rattle.loom_engine.specs.Trees.Outcomes.{outcome}
use Rattle.loom_engine.specs.Trees.Replay.{replayed}
use Rattle.loom_engine.specs.Trees.Reported.{HasCompleted, WasStopped, HasFailed}
use Rattle.loom.specs.declared.model.Replay.{Replay}
use Rattle.loom.specs.declared.model.Replay.TheVariants as replay

-- ---- the runs

module _ {D : Type 0} (s : Settings) (tree : Tree D) where
  -- the machine of a body's runs, searched by these settings
  abbrev pub machine : Machine
  machine = machine_of s (marking s.bound) tree

  -- what is known of a complete check, with each run's choices and value: these are the reachable runs, each once; none fails
  abbrev pub IsCompleteReport : List (List Choice × D) → Type 0
  IsCompleteReport runs = HasCompleted s (marking s.bound) tree runs

  -- what is known of a check that was stopped before another run: these are the first of the reachable runs, and there are more
  abbrev pub IsStoppedReport : List (List Choice × D) → Type 0
  IsStoppedReport runs = WasStopped s (marking s.bound) tree runs

  -- what is known where the run with these choices failed after the others: it is reachable, and they lead to the failure again
  abbrev pub IsFailedReport : List (List Choice × D) → FailureKind → List Choice → Type 0
  IsFailedReport runs failure failing = HasFailed s (marking s.bound) tree runs failure failing

-- ---- the visitor

-- the visitor was given these runs, one after another: choices and main's result
abbrev pub Given : {V D : Type 0} → (V → List Choice → D → V → Type 0) → V → List (List Choice × D) → V → Type 0
Given takes old [] new = new ≡ old
Given takes old (made ∷ runs) new = (mid : _) × takes old made.0 made.1 mid × Given takes mid runs new

module _ {V D : Type 0} (takes : V → List Choice → D → V → Type 0) (old new : V) where
  -- the visitor was given these runs, so many
  pub record WasGiven (runs : List (List Choice × D)) (count : ℕ) : Type 0 where
    pub given : Given takes old runs new
    pub counted : length runs ≡ count

-- ---- replays

module _ {D : Type 0} (max_branches : ℕ) (tree : Tree D) (given : List Choice) where
  -- The run that takes the given choices and then defaults made these choices, and ended so. Where each given choice
  -- is an option where it comes, it is the machine's run after them. That doesn't rest on what a search tries.
  pub record IsReplay (made : List Choice) (comes : Result D FailureKind) : Type 0 where
    pub replayed : replayed max_branches tree given ≡ (made, comes)
    pub allowed : IsAllowed (machine (whole_search max_branches) tree) given
        → (made ≡ run (machine (whole_search max_branches) tree) given) × (outcome max_branches tree made ≡ Some comes)

  abbrev pub Replays : Replay D → Type 0
  Replays (replay.Ended choices value) = IsReplay choices.items (Ok value)
  Replays (replay.Failed failure choices) = IsReplay choices.items (Err failure.kind)
