-- Laws of the run that takes given choices and then defaults.
use Rattle.std.specs.Prelude.{ℕ, ◌≡◌, ◌≢◌, List, length, Some, Result, Err}
use Rattle.loom_views.specs.declared.rt.failure.FailureKind.{FailureKind}
use Rattle.loom_views.specs.declared.rt.failure.FailureKind.TheVariants.{NotDeterministic, TooManyBranches}
use Rattle.loom_objects.specs.declared.choice.Choice.{Choice}
use Rattle.loom_objects.specs.Tree.Tree.{Tree}
use Rattle.loom_engine.specs.Walk.Lists.{IsAllowed}
use Rattle.loom_engine.specs.Walk.Machine.{run}
use Rattle.loom_engine.specs.Walk.Path.{choices}
use Rattle.loom_engine.specs.Trees.Check.{following}
use Rattle.loom_engine.specs.Trees.Drive.{Trail, drive}
use Rattle.loom_engine.specs.Trees.Machines.{IsMarking}
use Rattle.loom_engine.specs.Trees.Meeting.{Settings, Marking, machine_of}
use Rattle.loom_engine.specs.Trees.Outcomes.{outcome}
use Rattle.loom_engine.specs.Trees.Replay.{replayed}
use Rattle.loom_engine.specs.Trees.Sound.{IsSoundTree, NeverFails}

module _ {A : Type 0} (s : Settings) (adds : Marking) (tree : Tree A) where
  -- A path that is to follow the choices makes the replayed run, and has passed all its nodes after it.
  pub record FollowsReplay (given : List Choice) : Type 0 where
    pub path : Trail
    pub drives : drive s adds tree (following given) ≡ ((replayed s.max_branches tree given).1, path)
    pub made : choices path.nodes ≡ (replayed s.max_branches tree given).0
    pub all_passed : path.position ≡ length path.nodes

-- A path that is to follow any choices through any tree does so.
abbrev pub ReplayFollowsLaw : Type 0 → Type 0
ReplayFollowsLaw A = (s : Settings) (adds : Marking) (tree : Tree A) (given : List Choice) → FollowsReplay s adds tree given

-- Choices that are options where they come replay as the run that begins with them, to its outcome; and the choices
-- of a whole run replay to just that run.
abbrev pub AllowedReplayLaw : Type 0 → Type 0
AllowedReplayLaw A = (s : Settings) (adds : Marking) (tree : Tree A) (given : List Choice) → IsSoundTree tree → IsMarking adds
    → (IsAllowed (machine_of s adds tree) given
    → ((replayed s.max_branches tree given).0 ≡ run (machine_of s adds tree) given)
    × (outcome s.max_branches tree (run (machine_of s adds tree) given) ≡ Some (replayed s.max_branches tree given).1))
    × ((o : Result A FailureKind) → outcome s.max_branches tree given ≡ Some o → replayed s.max_branches tree given ≡ (given, o))

-- ---- failures

-- No list of choices leads to this failure, and none replays to it.
pub record NeverComesTo {A : Type 0} (kind : FailureKind) (max_branches : ℕ) (tree : Tree A) : Type 0 where
  pub leads : (x : List Choice) → outcome max_branches tree x ≢ Some (Err kind)
  pub replays : (given : List Choice) → (replayed max_branches tree given).1 ≢ Err kind

-- So it is where no run of the tree fails so by options, unless that is what a path alone brings about: that there are too many nodes, or
-- that the path doesn't meet the tree.
abbrev pub NoSuchFailureLaw : Type 0 → Type 0
NoSuchFailureLaw A = (kind : FailureKind) (max_branches : ℕ) (tree : Tree A) → kind ≢ TooManyBranches → kind ≢ NotDeterministic → IsSoundTree tree → NeverFails kind tree → NeverComesTo kind max_branches tree
