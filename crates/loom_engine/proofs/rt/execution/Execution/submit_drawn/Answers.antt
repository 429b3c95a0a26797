use Rattle.loom_engine.specs.contracts.rt.execution.Execution.{the_view}
use Rattle.loom_engine.proofs.Execution.Drawing.{submits_drawn}
use Rattle.loom_engine.proofs.rt.execution.Execution.submit_drawn.Goals as goal

pub returns-clause-event : goal.returns-clause-event
returns-clause-event g c =
    rw (← c.self.view_is)
    (submits_drawn (the_view g.row.D c.self.inside) _ c.args.op c.args.path.now c.hand_over-answer.new.path c.hand_over-answer.result c.in_default.is c.hand_over-answer.ensures.along
    c.record_end.ensures)
