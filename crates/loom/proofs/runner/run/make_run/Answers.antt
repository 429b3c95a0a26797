use Rattle.std.specs.Fn.{CalledAtMut}
use Rattle.loom.proofs.Closures.Alike.{only_run}
use Rattle.loom.proofs.Closures.Refusing.{weaker}
use Rattle.loom.proofs.runner.run.make_run.Goals as goal

pub returns-clause-errors : goal.returns-clause-errors
returns-clause-errors g c =
    weaker c.make_next_run-end.result _ _
    (λ e without. only_run (CalledAtMut g.F.FnMut) g.V.Visitor.takes c.args.limits c.args.closure.now c.args.visitor.now c.make_next_run-end.new.visitor c.args.path.now c.none-last.result 1 e c.none-last.ensures without)
    c.make_next_run-end.ensures.errors
