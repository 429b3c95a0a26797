use Rattle.std.proofs.Common.{sym, subst}
use Rattle.std.specs.Prelude.{◌≡◌, ◌≢◌, ℕ, List, Option, None, String, IfOk, IfErr}
use Rattle.std.specs.Fn.{CalledAtMut}
use Rattle.std.specs.declared.alloc.Global.{Global}
use Rattle.loom.specs.Model.Check.{gives_file}
use Rattle.loom.specs.Runner.AsAsked.{ReportsAsAsked}
use Rattle.loom.specs.Runner.Refusals.{IsNoReport}
use Rattle.loom.proofs.Closures.Alone.{file_gives}
use Rattle.loom.proofs.Closures.Refusing.{errors_as}
use Rattle.loom.proofs.runner.checks.check_lent.Goals as goal

-- ---- with a file

pub returns-in-Some-clause-reports : goal.returns-in-Some-clause-reports
returns-in-Some-clause-reports g c =
    file_gives c.args.builder.now.checkpoint_file (λ is. absurd (cc (c.in-Some.is, c.file_store.ensures.some.1 is)))
    (λ (gives : Option (List ℕ) → Type 0). IfOk c.check_lent_with.result
    (ReportsAsAsked (CalledAtMut g.F.FnMut) g.V.Visitor.takes c.args.builder.now c.args.closure.now c.args.visitor.now c.check_lent_with.new.visitor gives (λ text. Unit {0}) (λ time. time ≡ record { secs = 0; nanos = 0 })))
    c.check_lent_with.ensures.reports

pub returns-in-Some-clause-alike : goal.returns-in-Some-clause-alike
returns-in-Some-clause-alike g c = c.check_lent_with.ensures.alike

pub returns-in-Some-clause-changed : goal.returns-in-Some-clause-changed
returns-in-Some-clause-changed g c = c.check_lent_with.ensures.changed

pub returns-in-Some-clause-errors : goal.returns-in-Some-clause-errors
returns-in-Some-clause-errors g c = λ off.
    let named : c.args.builder.now.checkpoint_file ≢ None = λ is. absurd (cc (c.in-Some.is, c.file_store.ensures.some.1 is)) in
    file_gives c.args.builder.now.checkpoint_file named
    (λ (gives : Option (List ℕ) → Type 0). IfErr c.check_lent_with.result
    (IsNoReport (CalledAtMut g.F.FnMut) g.V.Visitor.takes c.args.builder.now gives (c.args.builder.now.checkpoint_file ≢ None) c.args.closure.now c.args.visitor.now c.check_lent_with.new.visitor))
    (errors_as (CalledAtMut g.F.FnMut) g.V.Visitor.takes c.args.builder.now (λ text. Unit {0}) _ (c.args.builder.now.checkpoint_file ≢ None) (λ risen. named) c.args.closure.now c.args.visitor.now
    c.check_lent_with.new.visitor c.check_lent_with.result (c.check_lent_with.ensures.errors off))

-- ---- without one

pub returns-in-None-clause-reports : goal.returns-in-None-clause-reports
returns-in-None-clause-reports g c =
    subst (λ (file : Option (String Global)). IfOk c.check_unsaved.result
    (ReportsAsAsked (CalledAtMut g.F.FnMut) g.V.Visitor.takes c.args.builder.now c.args.closure.now c.args.visitor.now c.check_unsaved.new.visitor (gives_file file) (λ text. Unit {0}) (λ time. time ≡ record { secs = 0; nanos = 0 })))
    (sym (c.file_store.ensures.some.0 c.in-None.is)) c.check_unsaved.ensures.reports

pub returns-in-None-clause-alike : goal.returns-in-None-clause-alike
returns-in-None-clause-alike g c = c.check_unsaved.ensures.alike

pub returns-in-None-clause-changed : goal.returns-in-None-clause-changed
returns-in-None-clause-changed g c = c.check_unsaved.ensures.changed

pub returns-in-None-clause-errors : goal.returns-in-None-clause-errors
returns-in-None-clause-errors g c = λ off.
    subst (λ (file : Option (String Global)). IfErr c.check_unsaved.result
    (IsNoReport (CalledAtMut g.F.FnMut) g.V.Visitor.takes c.args.builder.now (gives_file file) (c.args.builder.now.checkpoint_file ≢ None) c.args.closure.now c.args.visitor.now c.check_unsaved.new.visitor))
    (sym (c.file_store.ensures.some.0 c.in-None.is))
    (errors_as (CalledAtMut g.F.FnMut) g.V.Visitor.takes c.args.builder.now (λ text. text ≡ None) ⊥ (c.args.builder.now.checkpoint_file ≢ None) (λ none. absurd none) c.args.closure.now c.args.visitor.now
    c.check_unsaved.new.visitor c.check_unsaved.result (c.check_unsaved.ensures.errors off))
