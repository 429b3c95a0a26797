use Rattle.std.proofs.Common.{inr, refl}
use Rattle.loom_engine.specs.Runs.Machine.{further_branches, is_asked, schedule}
use Rattle.loom_engine.proofs.Execution.Executing.{answered_at_once}
use Rattle.loom_engine.proofs.Execution.Growing.{as_refused, begin_refused, event_needs}
use Rattle.loom_engine.proofs.rt.execution.hand_over.Goals as goal

pub returns-in-Err-clause-growth : goal.returns-in-Err-clause-growth
returns-in-Err-clause-growth g c = λ e. begin_refused c.args.op c.args.run.now c.args.path.now (c.in-Err.ensures.growth (as_refused c.in-Err.stop e))

pub returns-in-Ok-Answered-clause-along : goal.returns-in-Ok-Answered-clause-along
returns-in-Ok-Answered-clause-along g c =
    let starts = rw c.in-Ok-Answered.field-0-is at c.in-Ok-Answered.ensures.starts in
    answered_at_once c.args.op c.args.run.now c.start.new.run c.args.path.now c.in-Ok-Answered.reply c.active.result c.active.ensures starts

pub returns-in-Ok-AtBranch-clause-growth : goal.returns-in-Ok-AtBranch-clause-growth
returns-in-Ok-AtBranch-clause-growth g c = λ e.
    let starts = rw c.in-Ok-AtBranch.field-0-is at c.in-Ok-AtBranch.ensures.starts in
    inr (event_needs c.args.op _ (schedule further_branches) c.args.run.now c.start.new.run c.args.path.now (λ v. refl) starts (c.schedule.ensures.growth e))

pub returns-in-Ok-Spurious-clause-growth : goal.returns-in-Ok-Spurious-clause-growth
returns-in-Ok-Spurious-clause-growth g c = λ e.
    let starts = rw c.in-Ok-Spurious.field-0-is at c.in-Ok-Spurious.ensures.starts in
    inr (event_needs c.args.op _ (is_asked c.in-Ok-Spurious.notifier) c.args.run.now c.start.new.run c.args.path.now (λ v. refl) starts (c.wait.ensures.growth e))
