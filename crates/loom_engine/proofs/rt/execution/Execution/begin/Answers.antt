use Rattle.loom_engine.specs.contracts.rt.execution.Execution.{the_view}
use Rattle.loom_engine.proofs.Execution.Beginning.{begins_by}
use Rattle.loom_engine.proofs.rt.execution.Execution.begin.Goals as goal

pub returns-clause-event : goal.returns-clause-event
returns-clause-event g c =
    rw (← c.self.view_is)
    (begins_by (the_view g.row.D c.self.inside) _ c.args.op c.args.path.now c.enter-answer.new.path c.enter-answer.result c.in_default.is c.enter-answer.ensures.along
    c.record_stop.ensures.over)
