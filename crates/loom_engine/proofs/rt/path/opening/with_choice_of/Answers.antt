use Rattle.std.proofs.Common.{sym}
use Rattle.loom_engine.proofs.Parts.Options.{schedule_opens}
use Rattle.loom_engine.proofs.rt.path.opening.with_choice_of.Goals as goal

pub returns-in-Thread : goal.returns-in-Thread
returns-in-Thread c =
    schedule_opens c.args.node.now c.in-Schedule.schedule c.schedule_at.result c.in-Thread.thread c.args.other.now c.in-Schedule.is c.requires.well c.requires.goes_on (sym c.in-Thread.ensures)
    c.schedule_at.ensures.chosen c.schedule_at.ensures.rests c.schedule_at.ensures.five c.schedule_at.ensures.noted
