-- What a check with rising bounds on preemptions promises.
use Rattle.std.specs.Prelude.{ℕ, ◌≡◌, ◌≢◌, ◌<◌, ◌≤◌, Bool, true, false, List, Some, None, Err}
use Rattle.loom_views.specs.declared.rt.failure.FailureKind.{FailureKind}
use Rattle.loom_objects.specs.declared.choice.Choice.{Choice}
use Rattle.loom_objects.specs.Tree.Tree.{Tree}
use Rattle.loom.specs.Model.Within.{IsWithin}
use Rattle.loom_engine.specs.Runs.Sound.{IsRunTree}
use Rattle.loom_engine.specs.Trees.Outcomes.{outcome}
use Rattle.loom.specs.declared.model.builder.Builder.{Builder}
use Rattle.loom.specs.declared.model.report.Report.{Report}
use Rattle.loom.specs.declared.model.report.Report.TheVariants.{Complete, Stopped, Failed}
use Rattle.loom.specs.declared.model.rising.Risen.{Risen}
use Rattle.loom.specs.Model.Fresh.{IsCompleteReport}
use Rattle.loom.specs.Model.Check.{ReportsAlone}
use Rattle.loom.specs.Model.Settings.{search_of}

-- the same settings with this bound, and without a file
abbrev pub bounded : Builder → ℕ → Builder
bounded b bound = record b { preemption_bound = Some bound; checkpoint_file = None }

abbrev pub is_complete : Report → Bool
is_complete (Complete count) = true
is_complete (Stopped count limit checkpoint) = false
is_complete (Failed count failure choices) = false

module _ {D : Type 0} (b : Builder) (tree : Tree D) where
  -- with this bound a check has made some runs, which are all that it is to make, and none fails
  abbrev pub CompletesAt : ℕ → Type 0
  CompletesAt bound = (runs : List (List Choice × D)) × IsCompleteReport (search_of (bounded b bound)) tree runs

  -- No run fails in which every choice but a default's is where the run explores, and at a schedule only if that counts
  -- fewer preemptions than the bound (`IsWithin`).
  abbrev pub NoneFails : ℕ → Type 0
  NoneFails bound = (x : List Choice) (failure : FailureKind) → IsWithin bound b.max_branches tree x → outcome b.max_branches tree x ≢ Some (Err failure)

  -- what is known of checks with the bounds 0, 1, 2 .. up to the one that is reported
  pub record RisesTo (up_to : ℕ) (risen : Risen) : Type 0 where
    pub within : risen.bound ≤ up_to
    pub lower : (bound : ℕ) → bound < risen.bound → CompletesAt bound
    -- so with the whole search
    pub none_fails : b.reduce ≡ false → (bound : ℕ) → bound < risen.bound → NoneFails bound
    pub last : ReportsAlone (bounded b risen.bound) tree risen.report
    -- where the last is complete too there is no bound left
    pub ends : is_complete risen.report ≡ true → risen.bound ≡ up_to

-- A complete check that isn't reduced says so of its own bound.
abbrev pub NoFailureLaw : Type 0 → Type 0
NoFailureLaw D = (b : Builder) (tree : Tree D) (bound : ℕ) → IsRunTree tree → b.reduce ≡ false → CompletesAt b tree bound → NoneFails b tree bound
