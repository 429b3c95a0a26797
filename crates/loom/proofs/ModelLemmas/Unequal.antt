-- No run of a body fails because two orders are equal, and so no report and no replay says so.
use Rattle.std.proofs.Common.{◌≡◌, ◌≢◌, ◌∙◌, ap, subst, ℕ, List}
use Rattle.std.specs.Prelude.{Option, Result, Ok, Err, Some, IfOk}
use Rattle.std.specs.declared.time.Duration.{Duration}
use Rattle.loom_views.specs.declared.rt.failure.FailureKind.{FailureKind}
use Rattle.loom_views.specs.declared.rt.failure.FailureKind.TheVariants.{OrdersEqual}
use Rattle.loom_objects.specs.declared.choice.Choice.{Choice}
use Rattle.loom_objects.specs.Tree.Tree.{Tree}
use Rattle.loom_engine.specs.Walk.Path.{Stored}
use Rattle.loom_engine.specs.Trees.Outcomes.{outcome}
use Rattle.loom_engine.specs.Trees.Marks.{marking}
use Rattle.loom_engine.specs.Trees.Resuming.{HasFailedFrom, differs, fails_early, own}
use Rattle.loom_engine.specs.Trees.Replays.{NeverComesTo}
use Rattle.loom_engine.specs.Trees.Sound.{IsSoundTree, NeverFails}
use Rattle.loom_engine.specs.Path.Route.{stored}
use Rattle.loom_engine.proofs.Trees.Failing.{no_such_failure_law}
use Rattle.loom.specs.Model.Check.{MeetsNoEqualOrders, Reports}
use Rattle.loom.specs.Model.Fresh.{IsReplay}
use Rattle.loom.specs.Model.Settings.{search_of}
use Rattle.loom.specs.declared.model.builder.Builder.{Builder}
use Rattle.loom.specs.declared.model.error.CheckError.{CheckError}
use Rattle.loom.specs.declared.model.report.Report.{Report}
use Rattle.loom.specs.declared.model.report.Report.TheVariants.{Complete, Stopped, Failed}

module _ {D : Type 0} (tree : Tree D) (sound : IsSoundTree tree) (never : NeverFails OrdersEqual tree) where
  nothing : (max_branches : ℕ) → NeverComesTo OrdersEqual max_branches tree
  nothing max_branches = no_such_failure_law OrdersEqual max_branches tree (λ e. cc) (λ e. cc) sound never

  unmet : (room : ℕ) (x : List Choice) (kind : FailureKind) → outcome room tree x ≡ Some (Err kind) → kind ≢ OrdersEqual
  unmet room x kind e is = (nothing room).leads x (subst (λ k. outcome room tree x ≡ Some (Err k)) is e)

  module _ {V : Type 0} (takes : V → List Choice → D → V → Type 0) (old new : V) (b : Builder) (gives holds : Option (List ℕ) → Type 0) (answered : Duration → Type 0) where
    unequal : (report : Report) → Reports takes old new b tree gives holds answered report → MeetsNoEqualOrders report
    unequal (Complete count) r = tt
    unequal (Stopped count limit checkpoint) r = tt
    unequal (Failed count failure choices) r = by_failure (stored r.path) r.runs failure.kind choices.items r.says.failed
      where
        by_failure : (p : List Stored) (runs : List (List Choice × D)) (kind : FailureKind) (failing : List Choice) → HasFailedFrom (search_of b) (marking (search_of b).bound) tree p runs kind failing → kind ≢ OrdersEqual
        by_failure p runs kind failing (own f) = unmet (search_of b).max_branches failing kind f.fails
        by_failure p runs kind failing (differs f) = λ is. let e = f.is in cc (e, is)
        by_failure p runs kind failing (fails_early f) = unmet (search_of b).max_branches failing kind f.fails

    pub unequal_ok : (answer : Result Report CheckError) → IfOk answer (Reports takes old new b tree gives holds answered) → IfOk answer MeetsNoEqualOrders
    unequal_ok (Ok report) r = unequal report r
    unequal_ok (Err e) r = tt

  pub unequal_replay : (max_branches : ℕ) (given made : List Choice) (kind : FailureKind) → IsReplay max_branches tree given made (Err kind) → kind ≢ OrdersEqual
  unequal_replay max_branches given made kind r is =
      (nothing max_branches).replays given (ap (λ (made : List Choice × Result D FailureKind). made.1) r.replayed ∙ ap Err is)
