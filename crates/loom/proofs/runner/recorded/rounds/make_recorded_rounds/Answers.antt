use Rattle.std.proofs.Common.{refl}
use Rattle.loom.proofs.Closures.Erring.{made_error, no_fault}
use Rattle.loom.proofs.runner.recorded.rounds.make_recorded_rounds.Goals as goal

pub returns-in_err-recorder-clause-faults : goal.returns-in_err-recorder-clause-faults
returns-in_err-recorder-clause-faults g c =
    no_fault c.from_residual.result c.in_err-recorder.field-0.0 _ _ (made_error c.from_residual.result c.in_err-recorder.field-0.0 c.from_residual.ensures.1) (c.in_err-recorder.ensures.errors _) refl
