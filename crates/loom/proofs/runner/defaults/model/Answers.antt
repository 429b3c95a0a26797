use Rattle.std.specs.Fn.{CalledAtMut}
use Rattle.loom.proofs.Closures.AsAsked.{asked_by_default, off_by_default}
use Rattle.loom.proofs.Closures.Refusing.{by_defaults}
use Rattle.loom.proofs.runner.defaults.model.Goals as goal

pub returns-clause-errors : goal.returns-clause-errors
returns-clause-errors g c =
    by_defaults (CalledAtMut g.F.FnMut) (λ old choices value new. Unit {0}) c.new.result c.args.closure _ c.check_unsaved.new.visitor c.check_unsaved.result c.new.ensures
    (c.check_unsaved.ensures.errors (off_by_default c.new.result c.new.ensures))

pub returns-clause-reports : goal.returns-clause-reports
returns-clause-reports g c =
    asked_by_default (CalledAtMut g.F.FnMut) (λ old choices value new. Unit {0}) c.new.result c.args.closure _ c.check_unsaved.new.visitor c.check_unsaved.result c.new.ensures c.check_unsaved.ensures.reports
