use Rattle.std.proofs.Common.{ap}
use Rattle.loom.specs.declared.model.builder.Builder.{Builder}
use Rattle.loom.proofs.ModelLemmas.Unheard.{default_errors}
use Rattle.loom.proofs.model.model.Goals as goal

pub returns-clause-reports : goal.returns-clause-reports
returns-clause-reports g c = rw c.new.ensures at c.check.ensures.reports

pub returns-clause-errors : goal.returns-clause-errors
returns-clause-errors g c =
    let e = rw c.new.ensures at c.check.ensures.errors in
    default_errors c.check.result e (c.check.ensures.no_store (ap (λ (b : Builder). b.checkpoint_file) c.new.ensures))
