-- What a check makes of a tree of runs: rounds, each of which drives a path through the tree and steps to the next.
use Rattle.std.specs.Prelude.{◌≡◌, false, List, [], ◌∷◌, Some, None, Result, Ok, Err, ◌⊎◌, take, length, ◌≤◌}
use Rattle.loom_objects.specs.declared.choice.Choice.{Choice}
use Rattle.loom_engine.specs.Walk.Machine.{run}
use Rattle.loom_engine.specs.Walk.Runs.{Reachable}
use Rattle.loom_engine.specs.Walk.Path.{Stored, choices, IsResting, Rest, step, node_at, IsAtRest}
use Rattle.loom_engine.specs.Walk.UnderWay.{IsPartedAt}
use Rattle.loom_engine.specs.Walk.Walks.{IsStopped}
use Rattle.loom_engine.specs.Walk.Lists.{IsWalkList, IsAllowed, IsInOrder}
use Rattle.loom_views.specs.declared.rt.failure.FailureKind.{FailureKind}
use Rattle.loom_views.specs.declared.rt.failure.FailureKind.TheVariants.{NotDeterministic}
use Rattle.loom_objects.specs.Tree.Tree.{Tree}
use Rattle.loom_engine.specs.Trees.Outcomes.{outcome, AreRuns, choices_made}
use Rattle.loom_engine.specs.Trees.Sound.{IsSoundTree, IsClosing}
use Rattle.loom_engine.specs.Trees.Meeting.{Settings, Marking, machine_of}
use Rattle.loom_engine.specs.Trees.Machines.{IsMarking}
use Rattle.loom_engine.specs.Trees.Drive.{Trail, drive, at_start}

module _ {A : Type 0} (s : Settings) (adds : Marking) (tree : Tree A) where
  -- rounds from one path to another, with the choices and the value of each run that they made
  pub data Makes : List Stored → List (List Choice × A) → List Stored → Type 0 where
    makes_none : (p : List Stored) → Makes p [] p
    makes_one : (p later last : List Stored) (value : A) (path : Trail) (runs : List (List Choice × A)) → drive s adds tree (at_start p) ≡ (Ok value, path)
        → step path.nodes ≡ Some later → Makes later runs last → Makes p ((choices path.nodes, value) ∷ runs) last

  -- rounds up to the one after which no step is left
  pub data MakesAll : List Stored → List (List Choice × A) → Type 0 where
    makes_last : (p : List Stored) (value : A) (path : Trail) → drive s adds tree (at_start p) ≡ (Ok value, path) → step path.nodes ≡ None
        → MakesAll p ((choices path.nodes, value) ∷ [])
    makes_more : (p later : List Stored) (value : A) (path : Trail) (runs : List (List Choice × A)) → drive s adds tree (at_start p) ≡ (Ok value, path)
        → step path.nodes ≡ Some later → MakesAll later runs → MakesAll p ((choices path.nodes, value) ∷ runs)

  -- what is known of a check that is complete
  pub record IsComplete (p : List Stored) (runs : List (List Choice × A)) : Type 0 where
    pub are_runs : AreRuns s.max_branches tree runs
    pub walk : IsWalkList (Rest (machine_of s adds tree) p) (choices_made runs)
    pub none_fails : (x : List Choice) → Rest (machine_of s adds tree) p x → (value : A) × (outcome s.max_branches tree x ≡ Some (Ok value))

  -- what is known of one that was stopped, or goes on
  pub record IsPart (p : List Stored) (runs : List (List Choice × A)) (last : List Stored) : Type 0 where
    pub are_runs : AreRuns s.max_branches tree runs
    pub stopped : IsStopped (machine_of s adds tree) p (choices_made runs) last

  -- what is known of the run that fails
  pub record IsFailure (p : List Stored) (failure : FailureKind) (c : List Choice) : Type 0 where
    pub outcome : outcome s.max_branches tree c ≡ Some (Err failure)
    pub allowed : IsAllowed (machine_of s adds tree) c
    pub is_run : c ≡ run (machine_of s adds tree) c
    pub left : Rest (machine_of s adds tree) p c

-- Rounds from a path at rest whose nodes the tree asks for, up to the last, make a walk list of what was left from it.
abbrev pub CompleteLaw : Type 0 → Type 0
CompleteLaw A = (s : Settings) (adds : Marking) (tree : Tree A) (p : List Stored) (runs : List (List Choice × A)) → IsSoundTree tree → IsMarking adds
    → IsResting (machine_of s adds tree) p → MakesAll s adds tree p runs → IsComplete s adds tree p runs

-- From a path without nodes that is what is reachable; in a search that isn't reduced it comes in order.
abbrev pub FreshLaw : Type 0 → Type 0
FreshLaw A = (s : Settings) (adds : Marking) (tree : Tree A) (runs : List (List Choice × A)) → IsSoundTree tree → IsMarking adds → MakesAll s adds tree [] runs
    → IsWalkList (Reachable (machine_of s adds tree)) (choices_made runs)
    × (s.reduce ≡ false → IsInOrder (machine_of s adds tree) (choices_made runs))

-- Rounds that were stopped have made a part, and leave the other for the path that they reached.
abbrev pub PartLaw : Type 0 → Type 0
PartLaw A = (s : Settings) (adds : Marking) (tree : Tree A) (p last : List Stored) (runs : List (List Choice × A)) → IsSoundTree tree → IsMarking adds
    → IsResting (machine_of s adds tree) p → Makes s adds tree p runs last → IsPart s adds tree p runs last

-- Where the next run fails, its choices lead to that failure, and it was left from the start.
abbrev pub FailureLaw : Type 0 → Type 0
FailureLaw A = (s : Settings) (adds : Marking) (tree : Tree A) (p last : List Stored) (runs : List (List Choice × A)) (failure : FailureKind) (path : Trail) → IsSoundTree tree → IsMarking adds
    → IsResting (machine_of s adds tree) p → Makes s adds tree p runs last → drive s adds tree (at_start last) ≡ (Err failure, path)
    → IsFailure s adds tree p failure (choices path.nodes)

-- A check ends: complete, or with a run that fails.
abbrev pub EndLaw : Type 0 → Type 0
EndLaw A = (s : Settings) (adds : Marking) (tree : Tree A) (p : List Stored) → IsSoundTree tree → IsMarking adds → IsResting (machine_of s adds tree) p
    → ((runs : List (List Choice × A)) × MakesAll s adds tree p runs)
    ⊎ ((runs : List (List Choice × A)) × (last : List Stored) × Makes s adds tree p runs last × (failure : FailureKind) × (path : Trail) × (drive s adds tree (at_start last) ≡ (Err failure, path)))

-- the path that is to follow these choices
abbrev pub following : List Choice → Trail
following c = record { nodes = []; position = 0; given = c }

-- A path that follows choices, each an option where it comes, makes the run that begins with them and then takes defaults.
abbrev pub ReplayLaw : Type 0 → Type 0
ReplayLaw A = (s : Settings) (adds : Marking) (tree : Tree A) (c : List Choice) → IsSoundTree tree → IsMarking adds → IsAllowed (machine_of s adds tree) c
    → (choices (drive s adds tree (following c)).1.nodes ≡ run (machine_of s adds tree) c)
    × (outcome s.max_branches tree (run (machine_of s adds tree) c) ≡ Some (drive s adds tree (following c)).0)

-- What the first run along a path does that was loaded: it has met each node of the path; or it parts from the path, and
-- tells it apart, or has failed; then the choices that it has passed lead to that failure.
pub data FirstRun {A : Type 0} (s : Settings) (adds : Marking) (tree : Tree A) (p : List Stored) (d : Result A FailureKind × Trail) : Type 0 where
  all_met : IsResting (machine_of s adds tree) p → FirstRun s adds tree p d
  told_apart : IsPartedAt (machine_of s adds tree) p (choices (take d.1.position d.1.nodes)) → d.0 ≡ Err NotDeterministic → FirstRun s adds tree p d
  fails_early : IsPartedAt (machine_of s adds tree) p (choices (take d.1.position d.1.nodes)) → (failure : FailureKind) → d.0 ≡ Err failure
      → outcome s.max_branches tree (choices (take d.1.position d.1.nodes)) ≡ Some (Err failure) → FirstRun s adds tree p d

-- The first run along any path of nodes at rest, no more than there may be, does one of these.
abbrev pub FirstRunLaw : Type 0 → Type 0
FirstRunLaw A = (s : Settings) (adds : Marking) (tree : Tree A) (p : List Stored) → IsSoundTree tree → IsMarking adds → IsClosing tree
    → ((before : List Choice) (n : Stored) → node_at p before ≡ Some n → IsAtRest n) → length p ≤ s.max_branches
    → FirstRun s adds tree p (drive s adds tree (at_start p))

-- What a path does that is to follow some choices: they are allowed; or one is no option or left over; or the run fails
-- before they are used up, and the choices that it has passed lead to that failure.
pub data GivenRun {A : Type 0} (s : Settings) (adds : Marking) (tree : Tree A) (c : List Choice) (d : Result A FailureKind × Trail) : Type 0 where
  all_allowed : IsAllowed (machine_of s adds tree) c → GivenRun s adds tree c d
  refused : d.0 ≡ Err NotDeterministic → GivenRun s adds tree c d
  fails_before : (failure : FailureKind) → d.0 ≡ Err failure → outcome s.max_branches tree (choices d.1.nodes) ≡ Some (Err failure) → GivenRun s adds tree c d

-- A path that is to follow any choices does one of these.
abbrev pub GivenLaw : Type 0 → Type 0
GivenLaw A = (s : Settings) (adds : Marking) (tree : Tree A) (c : List Choice) → IsSoundTree tree → IsClosing tree → GivenRun s adds tree c (drive s adds tree (following c))
