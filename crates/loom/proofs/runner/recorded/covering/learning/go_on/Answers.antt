use Rattle.std.proofs.Common.{ap, refl}
use Rattle.std.specs.Fn.{CalledAtMut}
use Rattle.loom_engine.specs.Path.Route.{Route}
use Rattle.loom.proofs.Closures.Refusing.{handed_on}
use Rattle.loom.proofs.RunnerLemmas.RecordedCover.{records_no_more, records_one, rests_again, rests_start, rests_whole}
use Rattle.loom.proofs.runner.recorded.covering.learning.go_on.Goals as goal

pub run-requires-clause-starts : goal.run-requires-clause-starts
run-requires-clause-starts g c κs lives = rests_start c.args.builder.now c.args.search.now.path c.requires.rests

pub run-requires-clause-unguided : goal.run-requires-clause-unguided
run-requires-clause-unguided g c κs lives = ap (λ (r : Route). r.given) c.requires.rests

pub run-requires-clause-whole : goal.run-requires-clause-whole
run-requires-clause-whole g c κs lives = rests_whole c.args.builder.now c.args.search.now.path c.requires.rests

pub returns-then-is_some-clause-records : goal.returns-then-is_some-clause-records
returns-then-is_some-clause-records g c = records_no_more (CalledAtMut g.F.FnMut) c.args.limits c.args.closure.now c.args.closure.now c.args.recording.now c.args.recording.now refl refl

pub returns-in-Ok-Some-clause-records : goal.returns-in-Ok-Some-clause-records
returns-in-Ok-Some-clause-records g c = records_no_more (CalledAtMut g.F.FnMut) c.args.limits c.args.closure.now c.args.closure.now c.args.recording.now c.args.recording.now refl refl

pub returns-in-Ok-Some-clause-rests : goal.returns-in-Ok-Some-clause-rests
returns-in-Ok-Some-clause-rests g c = rests_again c.args.builder.now c.args.search.now.path c.run.new.path c.step.new.self.path c.requires.rests c.run.ensures.same c.step.ensures

pub returns-in_ok-record_along-in-Ok-None-clause-records : goal.returns-in_ok-record_along-in-Ok-None-clause-records
returns-in_ok-record_along-in-Ok-None-clause-records g c =
    records_one (CalledAtMut g.F.FnMut) c.args.limits c.args.closure.now c.record_along.new.closure c.args.recording.now c.record_along.new.recording c.in_ok-record_along-in-Ok-None.ensures.records

pub returns-in_ok-record_along-in-Ok-None-clause-rests : goal.returns-in_ok-record_along-in-Ok-None-clause-rests
returns-in_ok-record_along-in-Ok-None-clause-rests g c =
    rests_again c.args.builder.now c.args.search.now.path c.run.new.path c.step-in-Ok-None.new.self.path c.requires.rests c.run.ensures.same c.step-in-Ok-None.ensures

pub returns-in_err-record_along-in-Ok-None-clause-errors : goal.returns-in_err-record_along-in-Ok-None-clause-errors
returns-in_err-record_along-in-Ok-None-clause-errors g c =
    handed_on c.from_residual.result c.in_err-record_along-in-Ok-None.field-0.0 _ c.from_residual.ensures.1 c.in_err-record_along-in-Ok-None.ensures.errors
