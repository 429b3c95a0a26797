use Rattle.std.specs.Fn.{CalledAtMut}
use Rattle.loom.specs.Runner.Check.{limits_of}
use Rattle.loom.proofs.Closures.Refusing.{handed_on}
use Rattle.loom.proofs.RunnerLemmas.RecordedCover.{records_more, records_none}
use Rattle.loom.proofs.runner.recorded.covering.learning.learn.Goals as goal

pub searches-init : goal.searches-init
searches-init g c = record {
  callable = c.requires.callable;
  rests = c.in-Ok-begin.ensures;
  records = records_none (CalledAtMut g.F.FnMut) (limits_of c.args.builder.now) c.args.closure.now c.args.recording.now;
}

pub searches-preserved : goal.searches-preserved
searches-preserved g c = record {
  callable = c.go_on.ensures.again;
  rests = c.in_ok-go_round.ensures.rests;
  records = records_more (CalledAtMut g.F.FnMut) (limits_of c.args.builder.now) c.args.closure.now c.searches.closure c.go_on.new.closure c.args.recording.now c.searches.recording c.go_on.new.recording
      c.searches.invariant.records c.in_ok-go_on.ensures.records;
}

pub returns-then-is_whole-clause-records : goal.returns-then-is_whole-clause-records
returns-then-is_whole-clause-records g c =
    records_more (CalledAtMut g.F.FnMut) (limits_of c.args.builder.now) c.args.closure.now c.searches.closure c.go_on.new.closure c.args.recording.now c.searches.recording c.go_on.new.recording
    c.searches.invariant.records c.in_ok-go_on.ensures.records

pub returns-in_err-go_on-clause-errors : goal.returns-in_err-go_on-clause-errors
returns-in_err-go_on-clause-errors g c = handed_on c.from_residual.result c.in_err-go_on.field-0.0 _ c.from_residual.ensures.1 c.in_err-go_on.ensures.errors

pub returns-in_err-go_round-clause-errors : goal.returns-in_err-go_round-clause-errors
returns-in_err-go_round-clause-errors g c = handed_on c.from_residual-in_err-go_round.result c.in_err-go_round.field-0.0 _ c.from_residual-in_err-go_round.ensures.1 c.in_err-go_round.ensures.errors
