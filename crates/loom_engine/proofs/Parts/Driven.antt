-- A run through a tree along a part's path is one of the tree's machine, and the path goes on above the floor.
use Rattle.std.proofs.Common.{◌≡◌, ℕ, List, take, Some, ap, sym, ◌∙◌}
use Rattle.std.specs.Prelude.{Result}
use Rattle.std.proofs.Math.Seq.{take-length}
use Rattle.loom_views.specs.declared.rt.failure.FailureKind.{FailureKind}
use Rattle.loom_objects.specs.Tree.Tree.{Tree}
use Rattle.loom_engine.specs.Walk.Machine.{Machine}
use Rattle.loom_engine.specs.Walk.Sound.{IsMachine}
use Rattle.loom_engine.specs.Walk.Path.{Stored, choices, IsResting, after_run}
use Rattle.loom_engine.specs.Walk.Walks.{run_of}
use Rattle.loom_engine.specs.Trees.Outcomes.{outcome}
use Rattle.loom_engine.specs.Trees.Sound.{IsSoundTree}
use Rattle.loom_engine.specs.Trees.Meeting.{Settings, Marking, machine_of}
use Rattle.loom_engine.specs.Trees.Machines.{IsMarking}
use Rattle.loom_engine.specs.Trees.Drive.{Trail, drive, at_start, at_end, IsDriven}
use Rattle.loom_engine.specs.Parts.Floors.{step_above}
use Rattle.loom_engine.proofs.Walk.After.{after_run_is}
use Rattle.loom_engine.proofs.Walk.Resting.{after_resting}
use Rattle.loom_engine.proofs.Walk.Stepping.{Steps}
use Rattle.loom_engine.proofs.Walk.Left.{next_resting}
use Rattle.loom_engine.proofs.Trees.Machines.{machine_law}
use Rattle.loom_engine.proofs.Trees.Driving.{drive_law}
use Rattle.loom_engine.proofs.Parts.Lows.{steps_above}

module _ {A : Type 0} (s : Settings) (adds : Marking) (tree : Tree A) (k : ℕ) (sound : IsSoundTree tree) (fair : IsMarking adds) where
  abbrev m : Machine
  m = machine_of s adds tree

  is : IsMachine (machine_of s adds tree)
  is = machine_law s adds tree sound fair

  -- the outcome of a run along a path at rest, and how it left the path
  pub record Ran (p : List Stored) (value : Result A FailureKind) (path : Trail) : Type 0 where
    pub leaves : path.nodes ≡ after_run m p
    pub is_run : choices path.nodes ≡ run_of m p
    pub comes : outcome s.max_branches tree (choices path.nodes) ≡ Some value
    pub all_passed : take path.position path.nodes ≡ path.nodes

  pub ran : (p : List Stored) (value : Result A FailureKind) (path : Trail) → IsResting m p → drive s adds tree (at_start p) ≡ (value, path) → Ran p value path
  ran p value path rests h = go (drive_law s adds tree p sound fair rests)
    where
      go : IsDriven s adds tree p → Ran p value path
      go z =
          let e : (value, path) ≡ (z.comes, at_end (after_run m p)) = sym h ∙ z.drives in
          let nodes : path.nodes ≡ after_run m p = ap (λ (y : Result A FailureKind × Trail). y.1.nodes) e in
          let same : value ≡ z.comes = ap (λ (y : Result A FailureKind × Trail). y.0) e in
          let run : choices path.nodes ≡ run_of m p = ap choices nodes ∙ z.is_run in
          record { leaves = nodes; is_run = run; comes = ap (outcome s.max_branches tree) run ∙ z.outcome ∙ ap Some (sym same); all_passed = ap (λ (y : Result A FailureKind × Trail). take y.1.position y.1.nodes) e ∙ take-length (after_run m p) ∙ sym nodes }

  pub rests_on : (p q : List Stored) → IsResting m p → step_above k (after_run m p) ≡ Some q → IsResting m q
  unfolding Steps
  rests_on p q rests e = go (steps_above k (after_run m p) q e)
    where
      go : Steps (after_run m p) q → IsResting m q
      go (branch, n, o, t) =
          next_resting m is p (after_run m p) (run_of m p) (after_run_is m is p) (after_resting m is p (after_run m p) (run_of m p) rests (after_run_is m is p)) q branch n o t
