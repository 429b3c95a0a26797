use Rattle.loom.proofs.RunnerLemmas.RecordedWorkers.{played_nothing}
use Rattle.loom.proofs.runner.recorded.workers.working.work_on.Goals as goal

pub returns-then-part-clause-works : goal.returns-then-part-clause-works
returns-then-part-clause-works g c = played_nothing g.V.Visitor.takes c.args.builder.now c.args.visitor.now c.args.part.now c.args.recording.now c.args.visitor.now c.args.part.now

pub returns-clause-works : goal.returns-clause-works
returns-clause-works g c = c.in_ok-worked.ensures.works
