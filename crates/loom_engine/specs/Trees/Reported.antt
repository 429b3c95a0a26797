-- What a check that began without a path reports: it made the reachable runs, or the first of them.
use Rattle.std.specs.Prelude.{ℕ, ◌≡◌, ◌≢◌, ◌≤◌, false, List, [], ◌∷◌, ◌++◌, Some, None, Result, Ok, Err, ◌↔◌}
use Rattle.loom_objects.specs.declared.choice.Choice.{Choice}
use Rattle.loom_objects.specs.Tree.Tree.{Tree}
use Rattle.loom_views.specs.declared.rt.failure.FailureKind.{FailureKind}
use Rattle.loom_views.specs.declared.rt.failure.FailureKind.TheVariants.{NotDeterministic}
use Rattle.loom_engine.specs.Walk.Runs.{Reachable}
use Rattle.loom_engine.specs.Walk.Lists.{IsWalkList, IsInOrder}
use Rattle.loom_engine.specs.Trees.Outcomes.{outcome, passed, AreRuns, choices_made}
use Rattle.loom_engine.specs.Trees.Exploring.{ExploresTree}
use Rattle.loom_engine.specs.Trees.Meeting.{Settings, Marking, count, machine_of}
use Rattle.loom_engine.specs.Trees.Replay.{replayed}

module _ {A : Type 0} (s : Settings) (adds : Marking) (tree : Tree A) where
  -- these are the reachable runs, all of them
  pub record AreReachable (list : List (List Choice)) : Type 0 where
    -- each is there once, and those that share a beginning are together
    pub walk : IsWalkList (Reachable (machine_of s adds tree)) list
    -- in a search that isn't reduced they are in order, bounded or not
    pub in_order : s.reduce ≡ false → IsInOrder (machine_of s adds tree) list
    -- with neither reduction nor a bound, and where the tree explores throughout, they are all the tree's runs
    pub every_run : s.reduce ≡ false → s.bound ≡ None → ExploresTree tree
        → (x : List Choice) → Reachable (machine_of s adds tree) x ↔ ((o : Result A FailureKind) × (outcome s.max_branches tree x ≡ Some o))
    -- under a bound none of them counts more preemptions at any of its nodes
    pub within_bound : (bound : ℕ) → s.bound ≡ Some bound
        → (x : List Choice) → Reachable (machine_of s adds tree) x → (before rest : List Choice) → x ≡ before ++ rest → count (passed tree before) ≤ bound

  -- what is known of a check that is complete, with the choices and the value of each run
  pub record HasCompleted (runs : List (List Choice × A)) : Type 0 where
    pub are_runs : AreRuns s.max_branches tree runs
    pub all_runs : AreReachable (choices_made runs)
    -- no reachable run fails
    pub none_fails : (x : List Choice) → Reachable (machine_of s adds tree) x → (value : A) × (outcome s.max_branches tree x ≡ Some (Ok value))

  -- what is known of a check that was stopped before another run
  pub record WasStopped (runs : List (List Choice × A)) : Type 0 where
    pub are_runs : AreRuns s.max_branches tree runs
    -- the reachable runs that it didn't make, of which there are some
    pub more : List (List Choice)
    pub unfinished : more ≢ []
    pub all_runs : AreReachable (choices_made runs ++ more)

  -- what is known of a check in which the run with these choices failed, after the others
  pub record HasFailed (runs : List (List Choice × A)) (failure : FailureKind) (failing : List Choice) : Type 0 where
    pub are_runs : AreRuns s.max_branches tree runs
    -- the reachable runs that it didn't make
    pub more : List (List Choice)
    pub all_runs : AreReachable (choices_made runs ++ failing ∷ more)
    pub reachable : Reachable (machine_of s adds tree) failing
    pub fails : outcome s.max_branches tree failing ≡ Some (Err failure)
    -- it isn't that the path doesn't meet the tree
    pub own : failure ≢ NotDeterministic
    -- its choices lead to the failure again
    pub replays : replayed s.max_branches tree failing ≡ (failing, Err failure)
