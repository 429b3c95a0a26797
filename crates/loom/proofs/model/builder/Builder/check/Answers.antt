use Rattle.std.proofs.Common.{ap}
use Rattle.loom_engine.specs.Runs.Body.{runs}
use Rattle.loom.specs.Model.Settings.{explores}
use Rattle.loom.proofs.ModelLemmas.Among.{host_errors, host_reports, host_storeless}
use Rattle.loom.proofs.model.builder.Builder.check.Goals as goal

pub returns-clause-reports : goal.returns-clause-reports
returns-clause-reports g c =
    let b = c.args.self.now in
    let tree = runs g.B.Body.next (explores b) b.max_threads b.max_steps c.args.body.now in
    host_reports b tree _ _ c.check_among-answer.result.0 c.check_among-answer.ensures.checks

pub returns-clause-orders : goal.returns-clause-orders
returns-clause-orders g c = c.check_among-answer.ensures.checks.orders

pub returns-clause-refused : goal.returns-clause-refused
returns-clause-refused g c = c.check_among-answer.ensures.checks.refused

pub returns-clause-errors : goal.returns-clause-errors
returns-clause-errors g c =
    let b = c.args.self.now in
    let tree = runs g.B.Body.next (explores b) b.max_threads b.max_steps c.args.body.now in
    host_errors b tree _ _ c.check_among-answer.result.0 c.check_among-answer.ensures.checks

pub returns-clause-no_store : goal.returns-clause-no_store
returns-clause-no_store g c = λ none.
    host_storeless c.check_among-answer.result.0 _ _ c.new.ensures (ap (λ f. f.faults) (c.check_among-answer.ensures.unused none)) c.check_among-answer.ensures.checks.faults
