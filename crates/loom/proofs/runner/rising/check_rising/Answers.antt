use Rattle.std.proofs.Common.{◌≡◌, Err, IfErr, subst, sym}
use Rattle.loom.specs.declared.model.builder.Builder.{Builder}
use Rattle.loom.specs.declared.runner.error.RunnerError.TheVariants as error
use Rattle.loom.specs.Model.Settings.{tested}
use Rattle.loom.proofs.Closures.Erring.{refused_alone}
use Rattle.loom.proofs.runner.rising.check_rising.Goals as goal

pub returns-in_err-test-clause-refused : goal.returns-in_err-test-clause-refused
returns-in_err-test-clause-refused g c =
    subst (λ (b : Builder). IfErr (tested b) (λ e. c.from_residual.result ≡ Err (error.Settings e))) c.with_bound.ensures
    (refused_alone c.with_bound.result c.from_residual.result c.in_err-test.field-0.0 c.from_residual.ensures.1 (sym c.in_err-test.ensures.tested))
