-- Rounds one after another, as a loop makes them, and the path after each drive.
use Rattle.std.proofs.Common.{◌≡◌, List, [], ◌∷◌, ◌++◌, Some, None, ap, sym, ◌∙◌}
use Rattle.std.specs.Prelude.{Result, Ok}
use Rattle.loom_objects.specs.declared.choice.Choice.{Choice}
use Rattle.loom_objects.specs.Tree.Tree.{Tree}
use Rattle.loom_views.specs.declared.rt.failure.FailureKind.{FailureKind}
use Rattle.loom_engine.specs.Walk.Path.{Stored, choices, node_at, IsResting, after_run, step}
use Rattle.loom_engine.specs.Walk.Machine.{Machine}
use Rattle.loom_engine.specs.Walk.Walks.{run_of}
use Rattle.loom_engine.specs.Trees.Outcomes.{outcome}
use Rattle.loom_engine.specs.Trees.Sound.{IsSoundTree}
use Rattle.loom_engine.specs.Trees.Meeting.{Settings, Marking, machine_of}
use Rattle.loom_engine.specs.Trees.Machines.{IsMarking}
use Rattle.loom_engine.specs.Trees.Drive.{Trail, drive, at_start, at_end, IsDriven}
use Rattle.loom_engine.specs.Trees.Check.{Makes, makes_none, makes_one, MakesAll, makes_last, makes_more}
use Rattle.loom_engine.proofs.Trees.Driving.{drive_law}
use Rattle.loom_engine.proofs.Trees.Checking.{part_at}

-- a path without nodes rests
pub empty_rests : (m : Machine) → IsResting m []
unfolding node_at
empty_rests m = record { meets = λ before n h. absurd (cc h); rest = λ before n h. absurd (cc h) }

module _ {A : Type 0} (s : Settings) (adds : Marking) (tree : Tree A) where
  -- after rounds another, from which a path is left for the next
  pub another_round : (p last later : List Stored) (runs : List (List Choice × A)) (value : A) (path : Trail) → Makes s adds tree p runs last
      → drive s adds tree (at_start last) ≡ (Ok value, path) → step path.nodes ≡ Some later
      → Makes s adds tree p (runs ++ (choices path.nodes, value) ∷ []) later
  another_round p last later runs value path (makes_none _) h e = makes_one p later later value path [] h e (makes_none later)
  another_round p last later runs value path (makes_one _ next _ first trail others g f made) h e =
      makes_one p next later first trail (others ++ (choices path.nodes, value) ∷ []) g f (another_round next last later others value path made h e)

  -- after rounds the last one
  pub final_round : (p last : List Stored) (runs : List (List Choice × A)) (value : A) (path : Trail) → Makes s adds tree p runs last
      → drive s adds tree (at_start last) ≡ (Ok value, path) → step path.nodes ≡ None
      → MakesAll s adds tree p (runs ++ (choices path.nodes, value) ∷ [])
  final_round p last runs value path (makes_none _) h e = makes_last p value path h e
  final_round p last runs value path (makes_one _ next _ first trail others g f made) h e =
      makes_more p next first trail (others ++ (choices path.nodes, value) ∷ []) g f (final_round next last others value path made h e)

  -- the outcome of a drive from a path at rest, failing or not, and the path after it
  pub record AfterDrive (last : List Stored) (o : Result A FailureKind) (path : Trail) : Type 0 where
    pub all_passed : path ≡ at_end path.nodes
    pub leaves : path.nodes ≡ after_run (machine_of s adds tree) last
    pub is_run : choices path.nodes ≡ run_of (machine_of s adds tree) last
    pub comes : outcome s.max_branches tree (choices path.nodes) ≡ Some o

  module _ (sound : IsSoundTree tree) (marking : IsMarking adds) where
    -- a path that rounds reach is at rest
    pub makes_rests : (p last : List Stored) (runs : List (List Choice × A)) → IsResting (machine_of s adds tree) p → Makes s adds tree p runs last
        → IsResting (machine_of s adds tree) last
    makes_rests p last runs rests made = (part_at s adds tree sound marking p last runs rests made).stopped.resting

    pub driven : (last : List Stored) (o : Result A FailureKind) (path : Trail) → IsResting (machine_of s adds tree) last
        → drive s adds tree (at_start last) ≡ (o, path) → AfterDrive last o path
    driven last o path rests h = go (drive_law s adds tree last sound marking rests)
      where
        go : IsDriven s adds tree last → AfterDrive last o path
        go z =
            let q : List Stored = after_run (machine_of s adds tree) last in
            let e : (o, path) ≡ (z.comes, at_end q) = sym h ∙ z.drives in
            let path_is : path ≡ at_end q = ap (λ (y : Result A FailureKind × Trail). y.1) e in
            let nodes : path.nodes ≡ q = ap (λ (y : Trail). y.nodes) path_is in
            let same : z.comes ≡ o = sym (ap (λ (y : Result A FailureKind × Trail). y.0) e) in
            record {
              all_passed = path_is ∙ ap at_end (sym nodes);
              leaves = nodes;
              is_run = ap choices nodes ∙ z.is_run;
              comes = ap (outcome s.max_branches tree) (ap choices nodes ∙ z.is_run) ∙ z.outcome ∙ ap Some same;
            }

    -- the drive after rounds from a path without nodes
    pub next_driven : (last : List Stored) (runs : List (List Choice × A)) (o : Result A FailureKind) (path : Trail) → Makes s adds tree [] runs last
        → drive s adds tree (at_start last) ≡ (o, path) → AfterDrive last o path
    next_driven last runs o path made h = driven last o path (makes_rests [] last runs (empty_rests (machine_of s adds tree)) made) h
