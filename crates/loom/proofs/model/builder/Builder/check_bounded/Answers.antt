use Rattle.std.proofs.Common.{◌≡◌, ℕ, subst}
use Rattle.std.specs.Prelude.{None}
use Rattle.loom_engine.specs.Runs.Body.{runs}
use Rattle.loom.specs.Model.Refusals.{CountsFaults}
use Rattle.loom.specs.Model.Rising.{bounded}
use Rattle.loom.specs.Model.Settings.{explores}
use Rattle.loom.proofs.ModelLemmas.Bounds.{storeless}
use Rattle.loom.proofs.ModelLemmas.Errors.{no_count}
use Rattle.loom.proofs.ModelLemmas.Unheard.{unknown_ok}
use Rattle.loom.proofs.model.builder.Builder.check_bounded.Goals as goal

pub returns-clause-reports : goal.returns-clause-reports
returns-clause-reports g c =
    let b = bounded c.args.self.now c.args.bound in
    let tree = runs g.B.Body.next (explores b) b.max_threads b.max_steps c.args.body.now in
    unknown_ok b tree (λ text. text ≡ None) _ c.check_alone.result (rw c.with_bound.ensures at c.check_alone.ensures.reports)

pub returns-clause-errors : goal.returns-clause-errors
returns-clause-errors g c =
    let faults = subst (λ (n : ℕ). CountsFaults c.check_alone.result 0 n) (no_count c.check_alone.new.store) c.check_alone.ensures.faults in
    storeless (bounded c.args.self.now c.args.bound) c.check_alone.result (rw c.with_bound.ensures at c.check_alone.ensures.errors) faults
