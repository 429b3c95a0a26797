use Rattle.std.specs.Fn.{CalledAtMut}
use Rattle.loom.specs.Runner.Check.{limits_of}
use Rattle.loom.proofs.RunnerLemmas.RecordedCover.{records_more, records_none}
use Rattle.loom.proofs.runner.recorded.workers.turn.record_each.Goals as goal

pub jobs-init : goal.jobs-init
jobs-init g c = record {
  callable = c.requires.callable;
  limits = c.requires.limits;
  records = records_none (CalledAtMut g.F.FnMut) (limits_of c.args.builder.now) c.args.closure.now c.args.recorder.now.recording;
}

pub jobs-preserved : goal.jobs-preserved
jobs-preserved g c = record {
  callable = c.record_next.ensures.again;
  limits = c.record_next.ensures.limits;
  records = records_more (CalledAtMut g.F.FnMut) (limits_of c.args.builder.now) c.args.closure.now c.jobs.closure c.record_next.new.closure c.args.recorder.now.recording c.jobs.recorder.recording c.record_next.new.recorder.recording
      c.jobs.invariant.records c.in_ok-record_next.ensures.records;
}
