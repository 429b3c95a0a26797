use Rattle.loom_engine.specs.contracts.rt.execution.Execution.{the_view}
use Rattle.loom_engine.proofs.Execution.Executing.{schedules_by}
use Rattle.loom_engine.proofs.rt.execution.Execution.schedule.Goals as goal

pub returns-clause-event : goal.returns-clause-event
returns-clause-event g c =
    rw (← c.self.view_is)
    (schedules_by (the_view g.row.D c.self.inside) _ c.args.path.now c.schedule-answer.new.path c.schedule-answer.result c.in_default.is c.schedule-answer.ensures.along
    c.record_end.ensures c.schedule-answer.ensures.growth)
