use Rattle.std.proofs.Common.{refl}
use Rattle.loom_objects.specs.declared.rt.run.Entry.TheVariants.{AtBranch, Explores, Spurious}
use Rattle.loom_engine.specs.Path.Drawn.{led_by}
use Rattle.loom_engine.specs.Path.Route.{chosen}
use Rattle.loom_engine.specs.Runs.Machine.{further_branches, is_asked, schedule, switches}
use Rattle.loom_engine.proofs.Execution.Executing.{answered_at_once, start_stops, started_on}
use Rattle.loom_engine.proofs.Path.Drawing.{begins_all}
use Rattle.loom_engine.proofs.rt.execution.drawing.hand_over.Goals as goal

pub returns-in-Err-clause-along : goal.returns-in-Err-clause-along
returns-in-Err-clause-along g c = λ given leads. start_stops c.args.op c.args.run.now c.start.new.run (led_by given c.args.path.now) c.in-Err.stop c.in-Err.ensures.starts

pub returns-in-Err-clause-more : goal.returns-in-Err-clause-more
returns-in-Err-clause-more g c = begins_all (chosen c.args.path.now) (chosen c.args.path.now) refl

pub returns-in-Ok-Answered-clause-along : goal.returns-in-Ok-Answered-clause-along
returns-in-Ok-Answered-clause-along g c = λ given leads.
    let starts = rw c.in-Ok-Answered.field-0-is at c.in-Ok-Answered.ensures.starts in
    answered_at_once c.args.op c.args.run.now c.start.new.run (led_by given c.args.path.now) c.in-Ok-Answered.reply c.active.result c.active.ensures starts

pub returns-in-Ok-Answered-clause-more : goal.returns-in-Ok-Answered-clause-more
returns-in-Ok-Answered-clause-more g c = begins_all (chosen c.args.path.now) (chosen c.args.path.now) refl

pub returns-in-Ok-AtBranch-clause-along : goal.returns-in-Ok-AtBranch-clause-along
returns-in-Ok-AtBranch-clause-along g c = λ given leads.
    let starts = rw c.in-Ok-AtBranch.field-0-is at c.in-Ok-AtBranch.ensures.starts in
    started_on c.args.op c.args.run.now c.start.new.run (led_by given c.args.path.now) AtBranch (schedule further_branches) (λ v. refl) starts c.schedule.result c.schedule.new.run
    (led_by given c.schedule.new.path) (c.schedule.ensures.along given leads)

pub returns-in-Ok-Spurious-clause-along : goal.returns-in-Ok-Spurious-clause-along
returns-in-Ok-Spurious-clause-along g c = λ given leads.
    let starts = rw c.in-Ok-Spurious.field-0-is at c.in-Ok-Spurious.ensures.starts in
    started_on c.args.op c.args.run.now c.start.new.run (led_by given c.args.path.now) (Spurious c.in-Ok-Spurious.notifier) (is_asked c.in-Ok-Spurious.notifier) (λ v. refl) starts c.wait.result
    c.wait.new.run (led_by given c.wait.new.path) (c.wait.ensures.along given leads)

pub returns-in-Ok-Explores-clause-along : goal.returns-in-Ok-Explores-clause-along
returns-in-Ok-Explores-clause-along g c = λ given leads.
    let starts = rw c.in-Ok-Explores.field-0-is at c.in-Ok-Explores.ensures.starts in
    started_on c.args.op c.args.run.now c.start.new.run (led_by given c.args.path.now) (Explores c.in-Ok-Explores.op) (switches c.in-Ok-Explores.op) (λ v. refl) starts c.switch_drawn.result
    c.switch_drawn.new.run (led_by given c.switch_drawn.new.path) (c.switch_drawn.ensures.along given leads)
