use Rattle.std.proofs.Common.{◌∙◌}
use Rattle.std.specs.Fn.{CalledAtMut}
use Rattle.loom.specs.Runner.Check.{limits_of}
use Rattle.loom.proofs.RunnerLemmas.RecordedWorkers.{part_begins, records_by}
use Rattle.loom.proofs.runner.recorded.workers.turn.record_next.Goals as goal

pub make_run-requires-clause-starts : goal.make_run-requires-clause-starts
make_run-requires-clause-starts g c κs lives = part_begins c.args.builder.now c.in_ok-path.path c.args.part.now c.in_ok-path.ensures.rests

pub returns-clause-limits : goal.returns-clause-limits
returns-clause-limits g c = c.make_run.ensures.limits ∙ c.requires.limits

pub returns-clause-records : goal.returns-clause-records
returns-clause-records g c =
    records_by (CalledAtMut g.F.FnMut) c.args.recorder.now.limits (limits_of c.args.builder.now) c.args.recorder.now.keeps_locations c.in_ok-path.path c.make_run.new.path c.args.closure.now c.make_run.new.closure
    c.args.recorder.now.recording c.make_run.new.self.recording c.in_ok-_ending._ending c.requires.limits c.in_ok-_ending.ensures.makes
