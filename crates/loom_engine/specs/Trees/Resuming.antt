-- What is known of a check that begins with a path, by what it reports.
use Rattle.std.specs.Prelude.{◌≡◌, ◌≢◌, ◌≤◌, List, [], ◌∷◌, ◌++◌, length, take, Some, None, Err, ◌⊎◌, ◌↔◌}
use Rattle.loom_objects.specs.declared.choice.Choice.{Choice}
use Rattle.loom_objects.specs.declared.choice.Choice.TheVariants.{Thread}
use Rattle.loom_objects.specs.Tree.Tree.{Tree}
use Rattle.loom_views.specs.declared.rt.failure.FailureKind.{FailureKind}
use Rattle.loom_views.specs.declared.rt.failure.FailureKind.TheVariants.{NotDeterministic}
use Rattle.loom_engine.specs.Walk.Runs.{Reachable}
use Rattle.loom_engine.specs.Walk.Path.{Stored, choices, node_at, IsAtRest, IsResting, Rest}
use Rattle.loom_engine.specs.Walk.Lists.{Member, IsWalkList}
use Rattle.loom_engine.specs.Walk.UnderWay.{IsPartedAt}
use Rattle.loom_engine.specs.Trees.Outcomes.{outcome, AreRuns, choices_made}
use Rattle.loom_engine.specs.Trees.Sound.{IsClosing, IsFair, EndsUnchosen}
use Rattle.loom_engine.specs.Trees.Meeting.{Settings, Marking, machine_of}
use Rattle.loom_engine.specs.Trees.Drive.{Trail, drive, at_start}
use Rattle.loom_engine.specs.Trees.Check.{Makes, MakesAll, IsComplete}
use Rattle.loom_engine.specs.Trees.Replay.{replayed}
use Rattle.loom_engine.specs.Trees.Reports.{IsSearch}

-- each node of the path is as it is between two runs
abbrev pub AreAtRest : List Stored → Type 0
AreAtRest p = (before : List Choice) (n : Stored) → node_at p before ≡ Some n → IsAtRest n

-- each node of the path has a default: at a schedule some thread could go on
abbrev pub HasDefaults : List Stored → Type 0
HasDefaults p = (before : List Choice) (n : Stored) → node_at p before ≡ Some n → n.made.default ≢ Thread None

-- the choices that a path has passed
abbrev pub choices_passed : Trail → List Choice
choices_passed path = choices (take path.position path.nodes)

module _ {A : Type 0} (s : Settings) (adds : Marking) (tree : Tree A) where
  -- the path is one of the tree's: it asks for each of its nodes
  abbrev pub IsOfTree : List Stored → Type 0
  IsOfTree p = IsResting (machine_of s adds tree) p

  -- what is left from the path
  abbrev pub Left : List Stored → List Choice → Type 0
  Left p = Rest (machine_of s adds tree) p

  -- what is known of a check that is complete
  pub record HasCompletedFrom (p : List Stored) (runs : List (List Choice × A)) : Type 0 where
    pub of_tree : IsOfTree p
    -- it made what was left from the path, each run once, and none of that fails
    pub complete : IsComplete s adds tree p runs

  -- what is known of a check that was stopped before another run, at the path last
  pub record WasStoppedFrom (p : List Stored) (runs : List (List Choice × A)) (last : List Stored) : Type 0 where
    pub are_runs : AreRuns s.max_branches tree runs
    -- it has made no run and is where it began, or the path is one of the tree's
    pub began : ((runs ≡ []) × (last ≡ p)) ⊎ IsOfTree p
    -- what was left from the path are the runs that it made and, apart from them, those that are left from the last
    pub parts : (x : List Choice) → Left p x ↔ (Member x (choices_made runs) ⊎ Left last x)
    pub apart : (x : List Choice) → Member x (choices_made runs) → Left last x → ⊥
    -- where a check goes on there and is complete, its runs after those of this one are what was left, each once
    pub resumed : (more : List (List Choice × A)) → MakesAll s adds tree last more → IsWalkList (Left p) (choices_made runs ++ choices_made more)
    -- whatever they come to, there are more runs that were left, and after those of this check they make a walk list
    pub unfinished : IsOfTree p → (next : List Choice) × (more : List (List Choice)) × IsWalkList (Left p) (choices_made runs ++ next ∷ more)
    -- a check may begin with the last
    pub at_rest : AreAtRest last
    pub size : length last ≤ s.max_branches

  -- The run with these choices failed, after the others, of a path that is one of the tree's.
  pub record FailsItself (p : List Stored) (runs : List (List Choice × A)) (failure : FailureKind) (failing : List Choice) : Type 0 where
    pub of_tree : IsOfTree p
    pub are_runs : AreRuns s.max_branches tree runs
    -- it was left from the path, and is none of those that were made before
    pub left : Left p failing
    pub new : Member failing (choices_made runs) → ⊥
    -- with the runs that were not made they are a walk list of what was left
    pub more : List (List Choice)
    pub walk : IsWalkList (Left p) (choices_made runs ++ failing ∷ more)
    pub fails : outcome s.max_branches tree failing ≡ Some (Err failure)
    -- it isn't that the path doesn't meet the tree
    pub own : failure ≢ NotDeterministic
    -- its choices lead to the failure again
    pub replays : replayed s.max_branches tree failing ≡ (failing, Err failure)

  -- The first run has passed these choices, and the path isn't one of the tree's: its next node isn't the one that the tree
  -- asks for there, if it asks for any.
  pub record IsToldApart (p : List Stored) (runs : List (List Choice × A)) (failure : FailureKind) (passed : List Choice) : Type 0 where
    pub first : runs ≡ []
    pub is : failure ≡ NotDeterministic
    pub parted : IsPartedAt (machine_of s adds tree) p passed
    pub foreign : IsOfTree p → ⊥

  -- The first run failed by itself, with these choices, where the path has more nodes. So the path isn't one of the tree's.
  pub record FailsEarly (p : List Stored) (runs : List (List Choice × A)) (failure : FailureKind) (failing : List Choice) : Type 0 where
    pub first : runs ≡ []
    pub parted : IsPartedAt (machine_of s adds tree) p failing
    pub foreign : IsOfTree p → ⊥
    pub fails : outcome s.max_branches tree failing ≡ Some (Err failure)
    pub own : failure ≢ NotDeterministic
    pub replays : replayed s.max_branches tree failing ≡ (failing, Err failure)

  -- what is known of a check in which a run failed
  pub data HasFailedFrom (p : List Stored) (runs : List (List Choice × A)) (failure : FailureKind) (failing : List Choice) : Type 0 where
    own : FailsItself p runs failure failing → HasFailedFrom p runs failure failing
    differs : IsToldApart p runs failure failing → HasFailedFrom p runs failure failing
    fails_early : FailsEarly p runs failure failing → HasFailedFrom p runs failure failing

-- Rounds up to the last, from any path of nodes at rest, no more than there may be, have made what was left from it, and none
-- of that fails. The path is then one of the tree's.
abbrev pub CompleteFromLaw : Type 0 → Type 0
CompleteFromLaw A = (s : Settings) (adds : Marking) (tree : Tree A) (p : List Stored) (runs : List (List Choice × A)) → IsSearch s adds tree → IsClosing tree
    → AreAtRest p → length p ≤ s.max_branches → MakesAll s adds tree p runs → HasCompletedFrom s adds tree p runs

-- Rounds that leave it for another path have made a part of what was left, and leave the other for that path.
abbrev pub StoppedFromLaw : Type 0 → Type 0
StoppedFromLaw A = (s : Settings) (adds : Marking) (tree : Tree A) (p : List Stored) (runs : List (List Choice × A)) (last : List Stored) → IsSearch s adds tree → IsClosing tree
    → AreAtRest p → length p ≤ s.max_branches → Makes s adds tree p runs last → WasStoppedFrom s adds tree p runs last

-- Where a run fails after rounds, it is one that was left, and fails by itself; or it was the first, and the path isn't one
-- of the tree's. So a failure because the path doesn't meet the tree comes in the first run alone.
abbrev pub FailedFromLaw : Type 0 → Type 0
FailedFromLaw A = (s : Settings) (adds : Marking) (tree : Tree A) (p : List Stored) (runs : List (List Choice × A)) (last : List Stored) (failure : FailureKind) (path : Trail)
    → IsSearch s adds tree → IsClosing tree → IsFair tree → AreAtRest p → length p ≤ s.max_branches
    → Makes s adds tree p runs last → drive s adds tree (at_start last) ≡ (Err failure, path) → HasFailedFrom s adds tree p runs failure (choices_passed path)

-- Where a check goes on with the path that another reached, their runs are what one check makes.
abbrev pub JoinedLaw : Type 0 → Type 0
JoinedLaw A = (s : Settings) (adds : Marking) (tree : Tree A) (p middle : List Stored) (runs more : List (List Choice × A)) → Makes s adds tree p runs middle
    → ((last : List Stored) → Makes s adds tree middle more last → Makes s adds tree p (runs ++ more) last)
    × (MakesAll s adds tree middle more → MakesAll s adds tree p (runs ++ more))

-- What is left from a path that rounds from none came to is reachable. So a check that goes on there passes no bound either.
abbrev pub ResumedRunsLaw : Type 0 → Type 0
ResumedRunsLaw A = (s : Settings) (adds : Marking) (tree : Tree A) (runs : List (List Choice × A)) (last : List Stored) → IsSearch s adds tree → Makes s adds tree [] runs last
    → (x : List Choice) → Rest (machine_of s adds tree) last x → Reachable (machine_of s adds tree) x

-- A path between two runs holds no schedule without a default, where after one the tree asks nothing.
abbrev pub DefaultsLaw : Type 0 → Type 0
DefaultsLaw A = (s : Settings) (adds : Marking) (tree : Tree A) (p : List Stored) (runs : List (List Choice × A)) (last : List Stored) → IsSearch s adds tree → EndsUnchosen tree
    → IsResting (machine_of s adds tree) p → HasDefaults p → Makes s adds tree p runs last → HasDefaults last
