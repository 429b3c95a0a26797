-- What a check from a path without nodes reports, as laws of the rounds that it made.
use Rattle.std.specs.Prelude.{ℕ, ◌≡◌, List, [], ◌∷◌, ◌++◌, Some, None, Err, ◌⊎◌}
use Rattle.loom_objects.specs.declared.choice.Choice.{Choice}
use Rattle.loom_objects.specs.Tree.Question.{Made, Among}
use Rattle.loom_objects.specs.Tree.Tree.{Tree}
use Rattle.loom_views.specs.declared.rt.failure.FailureKind.{FailureKind}
use Rattle.loom_views.specs.declared.rt.failure.FailureKind.TheVariants.{NotDeterministic}
use Rattle.loom_engine.specs.Walk.Machine.{Machine}
use Rattle.loom_engine.specs.Walk.Path.{Stored, choices}
use Rattle.loom_engine.specs.Walk.Lists.{IsAllowed}
use Rattle.loom_engine.specs.Trees.Sound.{IsSoundTree, IsFair}
use Rattle.loom_engine.specs.Trees.Meeting.{Settings, Marking, machine_of}
use Rattle.loom_engine.specs.Trees.Machines.{IsMarking, IsMarkingBelow}
use Rattle.loom_engine.specs.Trees.Marks.{marking}
use Rattle.loom_engine.specs.Trees.Drive.{Trail, drive, at_start}
use Rattle.loom_engine.specs.Trees.Check.{Makes, MakesAll}
use Rattle.loom_engine.specs.Trees.Replay.{replayed}
use Rattle.loom_engine.specs.Trees.Reported.{HasCompleted, WasStopped, HasFailed}

module _ {A : Type 0} (s : Settings) (adds : Marking) (tree : Tree A) where
  -- what the reports rest on, whether the search is reduced or not, and bounded or not
  pub record IsSearch : Type 0 where
    pub marking : IsMarking adds
    -- under a bound nothing is marked at a node whose count is the bound
    pub below : (bound : ℕ) → s.bound ≡ Some bound → IsMarkingBelow bound adds
    pub sound : IsSoundTree tree

-- With the marks that schedules make any settings give a search, reduced or not and bounded or not.
abbrev pub SearchLaw : Type 0 → Type 0
SearchLaw A = (s : Settings) (tree : Tree A) → IsSoundTree tree → IsSearch s (marking s.bound) tree

-- Rounds up to the last have made each reachable run, and none fails.
abbrev pub CompleteReportLaw : Type 0 → Type 0
CompleteReportLaw A = (s : Settings) (adds : Marking) (tree : Tree A) (runs : List (List Choice × A)) → IsSearch s adds tree → MakesAll s adds tree [] runs
    → HasCompleted s adds tree runs

-- Rounds that leave a path for another have made the first of the reachable runs, and there are more.
abbrev pub StoppedReportLaw : Type 0 → Type 0
StoppedReportLaw A = (s : Settings) (adds : Marking) (tree : Tree A) (runs : List (List Choice × A)) (last : List Stored) → IsSearch s adds tree → Makes s adds tree [] runs last
    → WasStopped s adds tree runs

-- Rounds after which a run fails have made the reachable runs before it, and it is next. Its choices lead to its failure
-- again, which isn't that the path doesn't meet the tree.
abbrev pub FailedReportLaw : Type 0 → Type 0
FailedReportLaw A = (s : Settings) (adds : Marking) (tree : Tree A) (runs : List (List Choice × A)) (last : List Stored) (failure : FailureKind) (path : Trail) → IsSearch s adds tree → IsFair tree
    → Makes s adds tree [] runs last → drive s adds tree (at_start last) ≡ (Err failure, path) → HasFailed s adds tree runs failure (choices path.nodes)

-- ---- refused choices

-- A choice of the list is refused after these choices: it is no option there, or the run is over.
pub record IsRefused (m : Machine) (given made : List Choice) : Type 0 where
  pub choice : Choice
  pub rest : List Choice
  pub splits : given ≡ made ++ choice ∷ rest
  pub allowed : IsAllowed m made
  pub refused : (m.node made ≡ None) ⊎ ((n : Made) × (m.node made ≡ Some n) × (Among choice n.options → ⊥))

-- Through a fair tree choices replay as not deterministic only where one of them is refused, and the run has made those
-- before it.
abbrev pub RefusedReplayLaw : Type 0 → Type 0
RefusedReplayLaw A = (s : Settings) (adds : Marking) (tree : Tree A) (given : List Choice) → IsSoundTree tree → IsFair tree
    → (replayed s.max_branches tree given).1 ≡ Err NotDeterministic → IsRefused (machine_of s adds tree) given (replayed s.max_branches tree given).0
