use Rattle.std.proofs.Common.{inl, inr, refl, sym}
use Rattle.loom.proofs.Closures.Erring.{refused_so, settings_on}
use Rattle.loom.proofs.Closures.Refusing.{weaker}
use Rattle.loom.proofs.runner.walks.walk.Goals as goal

pub returns-in_err-test-clause-refused : goal.returns-in_err-test-clause-refused
returns-in_err-test-clause-refused g c =
    refused_so c.args.builder.now c.from_residual.result c.in_err-test.field-0.0 _ c.from_residual.ensures.1 (sym c.in_err-test.ensures.tested) refl

pub returns-in_err-test-clause-errors : goal.returns-in_err-test-clause-errors
returns-in_err-test-clause-errors g c =
    settings_on c.args.builder.now c.from_residual.result c.in_err-test.field-0.0 _ c.from_residual.ensures.1 (sym c.in_err-test.ensures.tested)
    (inl (c.in_err-test.field-0.0, refl, sym c.in_err-test.ensures.tested, refl))

pub returns-clause-errors : goal.returns-clause-errors
returns-clause-errors g c =
    weaker c.make_walk-answer.result _ _ (λ e broke. inr (sym c.in_ok-test.ensures.tested, broke)) c.make_walk-answer.ensures.errors
