use Rattle.std.proofs.Common.{subst}
use Rattle.loom_engine.specs.declared.rt.path.node.Node.TheVariants as node
use Rattle.loom_engine.specs.Path.Words.{places_of, IsFit}
use Rattle.loom_engine.proofs.Path.Words.{schedule_back, load_back}
use Rattle.loom_engine.proofs.rt.path.word.of_node.Goals as goal

pub returns-in-Schedule-clause-read : goal.returns-in-Schedule-clause-read
returns-in-Schedule-clause-read c =
    rw (c.in-Schedule.is, c.of_schedule.ensures.laid_out) (schedule_back c.in-Schedule.schedule (subst IsFit c.in-Schedule.is c.requires) c.of_schedule.ensures.counted)

pub returns-in-Load-clause-read : goal.returns-in-Load-clause-read
returns-in-Load-clause-read c =
    rw (c.in-Load.is, c.of_load.ensures) (load_back c.in-Load.load (subst IsFit c.in-Load.is c.requires) (places_of (node.Load c.in-Load.load)))
