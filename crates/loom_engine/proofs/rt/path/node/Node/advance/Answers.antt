use Rattle.loom_engine.proofs.rt.path.node.Node.advance.Goals as goal

pub returns-in-Schedule-clause-advances : goal.returns-in-Schedule-clause-advances
returns-in-Schedule-clause-advances c = rw c.in-Schedule.is c.advance.ensures.advances

pub returns-in-Load-clause-rests : goal.returns-in-Load-clause-rests
returns-in-Load-clause-rests c = (c.advance-in-Load.ensures.well, c.advance-in-Load.ensures.seven)
