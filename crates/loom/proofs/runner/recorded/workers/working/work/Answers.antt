use Rattle.loom.proofs.RunnerLemmas.RecordedWorkers.{played_so, within_so}
use Rattle.loom.proofs.runner.recorded.workers.working.work.Goals as goal

pub returns-clause-played : goal.returns-clause-played
returns-clause-played g c =
    played_so g.V.Visitor.takes c.args.builder.now c.args.recording.now c.args.job c.work_on-worked.new.part c.work_on-worked.new.visitor c.work_on-worked.result c.work_on-worked.ensures.base c.work_on-worked.ensures.works

pub returns-clause-within : goal.returns-clause-within
returns-clause-within g c = within_so c.args.slice c.work_on-worked.result c.work_on-worked.ensures.within
