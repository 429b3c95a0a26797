use Rattle.std.proofs.Common.{inl, refl}
use Rattle.loom.proofs.Closures.Erring.{memory_faultless}
use Rattle.loom.proofs.ModelLemmas.Errors.{on_error}
use Rattle.loom.proofs.runner.recorded.covering.cover_known.Goals as goal

pub returns-in_err-room-clause-left : goal.returns-in_err-room-clause-left
returns-in_err-room-clause-left g c = λ does words true. on_error c.from_residual.result (inl (λ text held. held))

pub returns-in_err-states-clause-left : goal.returns-in_err-states-clause-left
returns-in_err-states-clause-left g c = λ does words true. on_error c.from_residual-in_err-states.result (inl (λ text held. held))

pub returns-in_err-room-clause-faults : goal.returns-in_err-room-clause-faults
returns-in_err-room-clause-faults g c = memory_faultless c.from_residual.result _ _ c.from_residual.ensures.1 refl

pub returns-in_err-states-clause-faults : goal.returns-in_err-states-clause-faults
returns-in_err-states-clause-faults g c = memory_faultless c.from_residual-in_err-states.result _ _ c.from_residual-in_err-states.ensures.1 refl
