use Rattle.std.proofs.Common.{inl, refl, sym}
use Rattle.std.specs.Fn.{CalledAtMut}
use Rattle.loom.specs.Model.Stores.{HasRisen}
use Rattle.loom.specs.Runner.Check.{limits_of}
use Rattle.loom.specs.Runner.Errors.{of_check}
use Rattle.loom.proofs.Closures.Alike.{no_change, other_error}
use Rattle.loom.proofs.Closures.Erring.{refused_so, settings_faultless}
use Rattle.loom.proofs.Closures.Refusing.{broken, handed_on, refused}
use Rattle.loom.proofs.ModelLemmas.Errors.{on_error}
use Rattle.loom.proofs.runner.checks.check_called.Goals as goal

pub returns-in_err-test-clause-refused : goal.returns-in_err-test-clause-refused
returns-in_err-test-clause-refused g c =
    refused_so c.args.builder.now c.from_residual.result c.in_err-test.field-0.0 _ c.from_residual.ensures.1 (sym c.in_err-test.ensures.tested) refl

pub returns-in_err-test-clause-errors : goal.returns-in_err-test-clause-errors
returns-in_err-test-clause-errors g c =
    refused (CalledAtMut g.F.FnMut) g.V.Visitor.takes c.args.builder.now (g.S.CheckpointStore.gives c.args.store.now)
    (HasRisen (g.S.CheckpointStore.fault_count c.args.store.now) (g.S.CheckpointStore.fault_count c.args.store.now)) c.args.closure.now c.args.visitor.now c.args.visitor.now c.from_residual.result
    c.in_err-test.field-0.0 c.from_residual.ensures.1 (sym c.in_err-test.ensures.tested) refl

pub returns-in_err-test-clause-left : goal.returns-in_err-test-clause-left
returns-in_err-test-clause-left g c = on_error c.from_residual.result (inl (λ text held. held))

pub returns-in_err-test-clause-faults : goal.returns-in_err-test-clause-faults
returns-in_err-test-clause-faults g c =
    settings_faultless c.args.builder.now c.from_residual.result c.in_err-test.field-0.0 _ _ c.from_residual.ensures.1 (sym c.in_err-test.ensures.tested) refl

pub returns-clause-errors : goal.returns-clause-errors
returns-clause-errors g c =
    broken (CalledAtMut g.F.FnMut) g.V.Visitor.takes c.args.builder.now (g.S.CheckpointStore.gives c.args.store.now)
    (HasRisen (g.S.CheckpointStore.fault_count c.args.store.now) (g.S.CheckpointStore.fault_count c.make_rounds-answer.new.store)) c.args.closure.now c.args.visitor.now c.make_rounds-answer.new.visitor
    c.make_rounds-answer.result (sym c.in_ok-test.ensures.tested) c.make_rounds-answer.ensures.errors

pub returns-in_err-test-clause-changed : goal.returns-in_err-test-clause-changed
returns-in_err-test-clause-changed g c =
    handed_on c.from_residual.result (of_check c.in_err-test.field-0.0) _ c.from_residual.ensures.1
    (no_change (CalledAtMut g.F.FnMut) g.V.Visitor.takes (limits_of c.args.builder.now) c.args.closure.now (of_check c.in_err-test.field-0.0) (other_error c.in_err-test.field-0.0))
