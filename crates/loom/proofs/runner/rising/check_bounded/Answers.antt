use Rattle.std.specs.Fn.{CalledAtMut}
use Rattle.loom.proofs.Closures.AsAsked.{reports_at}
use Rattle.loom.proofs.runner.rising.check_bounded.Goals as goal

pub returns-clause-reports : goal.returns-clause-reports
returns-clause-reports g c =
    reports_at (CalledAtMut g.F.FnMut) c.args.builder.now c.args.bound c.with_bound-bounded.result c.args.closure.now _ c.check_unsaved.new.visitor c.check_unsaved.result c.with_bound-bounded.ensures c.check_unsaved.ensures.reports
