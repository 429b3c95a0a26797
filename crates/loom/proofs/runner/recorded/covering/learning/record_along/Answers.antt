use Rattle.std.proofs.Common.{subst, sym, ◌∙◌}
use Rattle.std.specs.Fn.{CalledAtMut}
use Rattle.loom.specs.Runner.Recorded.{IsDone}
use Rattle.loom.proofs.Closures.Refusing.{handed_on}
use Rattle.loom.proofs.RunnerLemmas.RecordedCover.{records_run}
use Rattle.loom.proofs.runner.recorded.covering.learning.record_along.Goals as goal

pub returns-clause-records : goal.returns-clause-records
returns-clause-records g c =
    let run = c.in_ok-events.ensures.made in
    records_run (CalledAtMut g.F.FnMut) c.args.limits c.args.closure.now c.make_real_run.new.closure c.args.recording.now c.record_run.new.recording c.record_run.result run.0 run.1
    (λ does words z done. c.record_run.ensures.recorded does words z (subst (IsDone does) (run.2 ∙ sym c.as_slice-2.ensures.value) done))

pub returns-in_err-events-clause-errors : goal.returns-in_err-events-clause-errors
returns-in_err-events-clause-errors g c = handed_on c.from_residual.result c.in_err-events.field-0.0 _ c.from_residual.ensures.1 c.in_err-events.ensures.errors
