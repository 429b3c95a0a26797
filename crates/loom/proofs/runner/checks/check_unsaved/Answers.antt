use Rattle.std.specs.Fn.{CalledAtMut}
use Rattle.std.specs.Prelude.{ℕ, ◌≡◌, List, Option, None}
use Rattle.loom.proofs.Closures.Alone.{none_risen}
use Rattle.loom.proofs.Closures.AsAsked.{asked_alone}
use Rattle.loom.proofs.Closures.Refusing.{errors_as}
use Rattle.loom.proofs.runner.checks.check_unsaved.Goals as goal

pub returns-clause-reports : goal.returns-clause-reports
returns-clause-reports g c =
    asked_alone (CalledAtMut g.F.FnMut) g.V.Visitor.takes c.args.builder.now c.args.closure.now c.args.visitor.now c.check_lent_with.new.visitor _ _ _ c.check_lent_with.result c.check_lent_with.ensures.reports

pub returns-clause-alike : goal.returns-clause-alike
returns-clause-alike g c = c.check_lent_with.ensures.alike

pub returns-clause-changed : goal.returns-clause-changed
returns-clause-changed g c = c.check_lent_with.ensures.changed

pub returns-clause-errors : goal.returns-clause-errors
returns-clause-errors g c = λ off.
    errors_as (CalledAtMut g.F.FnMut) g.V.Visitor.takes c.args.builder.now (λ (text : Option (List ℕ)). text ≡ None) _ ⊥ (none_risen c.check_lent_with.new.store) c.args.closure.now c.args.visitor.now
    c.check_lent_with.new.visitor c.check_lent_with.result (c.check_lent_with.ensures.errors off)
