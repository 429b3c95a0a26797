use Rattle.std.proofs.Common.{◌-◌, ◌∙◌, ap₂, sym}
use Rattle.loom_engine.proofs.Execution.Executing.{refused_so, start_refused}
use Rattle.loom_engine.proofs.rt.execution.start.Goals as goal

pub returns-then-is_err-clause-growth : goal.returns-then-is_err-clause-growth
returns-then-is_err-clause-growth g c = λ e.
    start_refused c.args.op c.begin-answer.result c.args.run.now.state c.begin-answer.new.run c.saturating_sub-threads.result c.saturating_sub-objects.result
    (sym c.if-is_ok.ensures.value) c.begin-answer.ensures.does
    (c.saturating_sub-threads.ensures ∙ ap₂ (λ x y. x - y) c.thread_count.ensures.count c.thread_count-threads.ensures.count)
    (c.saturating_sub-objects.ensures ∙ ap₂ (λ x y. x - y) c.object_count.ensures c.object_count-objects.ensures)
    (refused_so c.grow.result (sym c.if-is_err.ensures.value) c.grow.ensures.growth)
