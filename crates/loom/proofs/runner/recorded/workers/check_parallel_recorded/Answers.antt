use Rattle.std.proofs.Common.{◌≡◌, ◌∙◌, Result, Err, IfErr, ap, refl, subst, sym}
use Rattle.std.specs.Prelude.{⊤}
use Rattle.std.specs.Result.{IsErrAnd}
use Rattle.loom.specs.declared.model.builder.Builder.{Builder}
use Rattle.loom.specs.declared.model.error.CheckError.{CheckError}
use Rattle.loom.specs.declared.runner.error.RunnerError.{RunnerError}
use Rattle.loom.specs.declared.runner.error.RunnerError.TheVariants.{Settings}
use Rattle.loom.specs.Model.Settings.{tested}
use Rattle.loom.specs.Runner.Errors.{of_check}
use Rattle.loom.proofs.Closures.Erring.{made_error, settings_so}
use Rattle.loom.proofs.runner.recorded.workers.check_parallel_recorded.Goals as goal

-- a setting out of range refuses the check, and two things stay
refused_so : {A : Type 0} (b : Builder) (r : Result A RunnerError) (e : CheckError) (P Q : Type 0) → IsErrAnd r (λ x. x ≡ of_check e) → tested b ≡ Err e → P → Q
    → IfErr (tested b) (λ x. (r ≡ Err (Settings x)) × P × Q)
refused_so b r e P Q is out p q =
    subst (λ (t : Result ⊤ CheckError). IfErr t (λ x. (r ≡ Err (Settings x)) × P × Q)) (sym out) (made_error r (of_check e) is ∙ ap Err (settings_so b e out), p, q)

pub returns-in_err-test-clause-refused : goal.returns-in_err-test-clause-refused
returns-in_err-test-clause-refused g c =
    refused_so c.args.builder.now c.from_residual.result c.in_err-test.field-0.0 (c.args.visitors.now ≡ c.args.visitors.now) (c.args.parts.now ≡ c.args.parts.now) c.from_residual.ensures.1 (sym c.in_err-test.ensures.tested) refl refl
